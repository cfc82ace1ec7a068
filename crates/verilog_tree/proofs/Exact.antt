-- Readers that are exact: what they read is spelled so, what is spelled so they read, and a fault stands at the first token that no spelling goes on with.
use Rattle.std.proofs.Common.{◌≡◌, ℕ, zero, suc, ◌≤◌, ◌<◌, Bool, true, false, cond, List, [], ◌∷◌, ◌++◌, length, Option, Some, None, Result, Ok, Err, refl, sym, ap, subst, ◌∙◌, append_assoc, arith, ◌⊎◌, inl, inr, length-append}
use Rattle.std.proofs.lemmas.List.{append-nil}
use Rattle.verilog_tree.specs.Words.{Word}
use Rattle.verilog_tree.proofs.Good.{Good, AllGood, good_both}
use Rattle.verilog_tree.specs.Reading.{◌>>=◌, first, chosen, put, one, many, Both, Each, Perhaps}

-- a value that was taken from the front
pub record Takes {A : Type 0} (S : A → List Word → Type 0) (read : List Word → Result (A × List Word) ℕ) (ts : List Word) (a : A) (rest : List Word) : Type 0 where
  pub front : List Word
  pub spelled : S a front
  pub parts : ts ≡ front ++ rest
  -- all that was seen of the rest is its first token
  pub local : (rest' : List Word) → first rest' ≡ first rest → read (front ++ rest') ≡ Ok (a, rest')

pub record Stops {A : Type 0} (S : A → List Word → Type 0) (read : List Word → Result (A × List Word) ℕ) (ts : List Word) (left : ℕ) : Type 0 where
  pub front : List Word
  pub rest : List Word
  pub parts : ts ≡ front ++ rest
  pub is_left : left ≡ length rest
  pub local : (rest' : List Word) → first rest' ≡ first rest → read (front ++ rest') ≡ Err (length rest')
  -- what would complete it
  pub tail : List Word
  pub good : AllGood tail
  pub value : A
  pub completed : S value (front ++ tail)

pub record Exact {A : Type 0} (S : A → List Word → Type 0) (read : List Word → Result (A × List Word) ℕ) (after : Option Word → Bool) : Type 0 where
  pub takes : (ts : List Word) (a : A) (rest : List Word) → read ts ≡ Ok (a, rest) → Takes S read ts a rest
  pub stops : (ts : List Word) (left : ℕ) → read ts ≡ Err left → Stops S read ts left
  pub again : (a : A) (w rest : List Word) → S a w → after (first rest) ≡ true → read (w ++ rest) ≡ Ok (a, rest)
  pub value : A
  pub word : List Word
  pub good : AllGood word
  pub spelled : S value word

abbrev pub any : Option Word → Bool
any o = true

-- ---- tools

pub bind_ok : {A B : Type 0} (r : Result A ℕ) (f : A → Result B ℕ) (y : B) → (r >>= f) ≡ Ok y → (x : A) × (r ≡ Ok x) × (f x ≡ Ok y)
bind_ok (Ok x) f y e = (x, refl, e)
bind_ok (Err d) f y e = absurd cc

pub bind_err : {A B : Type 0} (r : Result A ℕ) (f : A → Result B ℕ) (k : ℕ) → (r >>= f) ≡ Err k → (r ≡ Err k) ⊎ ((x : A) × (r ≡ Ok x) × (f x ≡ Err k))
bind_err (Ok x) f k e = inr (x, refl, e)
bind_err (Err d) f k e = inl cc

pub bool_cases : (b : Bool) → (b ≡ true) ⊎ (b ≡ false)
bool_cases true = inl refl
bool_cases false = inr refl

-- the first token behind a front
pub first_same : (w r r' : List Word) → first r' ≡ first r → first (w ++ r') ≡ first (w ++ r)
first_same [] r r' e = e
first_same (t ∷ w) r r' e = refl

pub ok_inj : {X : Type 0} (x y : X) → (let a : Result X ℕ = Ok x in a) ≡ Ok y → x ≡ y
ok_inj x y e = cc

-- ---- nothing more

abbrev pub Done : {A : Type 0} → A → A → List Word → Type 0
Done v a w = (a ≡ v) × (w ≡ [])

pub done : {A : Type 0} (v : A) → Exact (Done v) (λ ts. Ok (v, ts)) any
done v = record {
  takes = λ ts a rest e. record {
    front = [];
    spelled = (sym (ap (λ (p : _ × _). p.0) (ok_inj (v, ts) (a, rest) e)), refl);
    parts = ap (λ (p : _ × _). p.1) (ok_inj (v, ts) (a, rest) e);
    local = λ rest' same. ap (λ (x : _). Ok (x, rest')) (ap (λ (p : _ × _). p.0) (ok_inj (v, ts) (a, rest) e));
  };
  stops = λ ts left e. absurd cc;
  again = λ a w rest s ok. rw (s.0, s.1) refl;
  value = v;
  word = [];
  good = tt;
  spelled = (refl, refl);
}

-- ---- one token

abbrev pub One : {A : Type 0} → (Word → Option A) → A → List Word → Type 0
One f a w = (t : _) × (f t ≡ Some a) × (w ≡ t ∷ [])

one_takes : {A : Type 0} (f : Word → Option A) (ts : List Word) (a : A) (rest : List Word) → one f ts ≡ Ok (a, rest) → Takes (One f) (one f) ts a rest
one_takes f [] a rest e = absurd cc
one_takes f (t ∷ ts) a rest e = took (f t) refl e where
  took : (o : Option _) → f t ≡ o → chosen o t ts ≡ Ok (a, rest) → Takes (One f) (one f) (t ∷ ts) a rest
  took None is e = absurd cc
  took (Some b) is e =
      let p : b ≡ a = ap (λ (p : _ × _). p.0) (ok_inj (b, ts) (a, rest) e) in
      let q : ts ≡ rest = ap (λ (p : _ × _). p.1) (ok_inj (b, ts) (a, rest) e) in
      record {
        front = t ∷ [];
        spelled = (t, is ∙ ap Some p, refl);
        parts = ap (λ (x : List _). t ∷ x) q;
        local = λ rest' same. rw (is ∙ ap Some p) refl;
      }

one_stops : {A : Type 0} (f : Word → Option A) (a : A) (t : Word) → f t ≡ Some a → Good t → (ts : List Word) (left : ℕ) → one f ts ≡ Err left → Stops (One f) (one f) ts left
one_stops f a t is g [] left e = record {
  front = [];
  rest = [];
  parts = refl;
  is_left = cc;
  local = at_end;
  tail = t ∷ [];
  good = (g, tt);
  value = a;
  completed = (t, is, refl);
} where
  at_end : (rest' : List _) → first rest' ≡ first [] → one f rest' ≡ Err (length rest')
  at_end [] same = refl
  at_end (x ∷ xs) same = absurd cc
one_stops f a t is g (u ∷ ts) left e = stopped (f u) refl e where
  stopped : (o : Option _) → f u ≡ o → chosen o u ts ≡ Err left → Stops (One f) (one f) (u ∷ ts) left
  stopped None is_none e = record {
    front = [];
    rest = u ∷ ts;
    parts = refl;
    is_left = cc;
    local = at_token is_none;
    tail = t ∷ [];
    good = (g, tt);
    value = a;
    completed = (t, is, refl);
  } where
    at_token : f u ≡ None → (rest' : List _) → first rest' ≡ first (u ∷ ts) → one f rest' ≡ Err (length rest')
    at_token is_none [] same = absurd cc
    at_token is_none (x ∷ xs) same = let s : x ≡ u = cc in rw (s, is_none) refl
  stopped (Some b) is_some e = absurd cc

one_again : {A : Type 0} (f : Word → Option A) (a : A) (w rest : List Word) → One f a w → one f (w ++ rest) ≡ Ok (a, rest)
one_again f a w rest (t, is, e) = rw (e, is) refl

pub exact_one : {A : Type 0} (f : Word → Option A) (a : A) (t : Word) → f t ≡ Some a → Good t → Exact (One f) (one f) any
exact_one f a t is g = record {
  takes = one_takes f;
  stops = one_stops f a t is g;
  again = λ a w rest s ok. one_again f a w rest s;
  value = a;
  word = t ∷ [];
  good = (g, tt);
  spelled = (t, is, refl);
}

-- ---- one after the other

pub record Then {A B : Type 0} (S : A → List Word → Type 0) (Q : A → B → List Word → Type 0) (b : B) (w : List Word) : Type 0 where
  pub value : A
  pub front : List Word
  pub back : List Word
  pub first_is : S value front
  pub then_is : Q value b back
  pub parts : w ≡ front ++ back

abbrev pub then : {A B : Type 0} → (List Word → Result (A × List Word) ℕ) → (A → List Word → Result (B × List Word) ℕ) → List Word → Result (B × List Word) ℕ
then p q ts = p ts >>= λ x. q x.0 x.1

-- what comes behind may stand there
abbrev pub Joins : {A B : Type 0} → (Option Word → Bool) → (A → B → List Word → Type 0) → (Option Word → Bool) → Type 0
Joins {A} {B} after Q ends = (a : A) (b : B) (w rest : List Word) → Q a b w → ends (first rest) ≡ true → after (first (w ++ rest)) ≡ true

pub exact_then : {A B : Type 0} (S : A → List Word → Type 0) (p : List Word → Result (A × List Word) ℕ) (after : Option Word → Bool)
    (Q : A → B → List Word → Type 0) (q : A → List Word → Result (B × List Word) ℕ) (ends : Option Word → Bool)
    → Exact S p after → ((a : A) → Exact (Q a) (q a) ends) → Joins after Q ends → Exact (Then S Q) (then p q) ends
exact_then {A} {B} S p after Q q ends ep eq joins = record {
  takes = taken;
  stops = stopped;
  again = λ b w rest s ok. read_again b w rest s ok;
  value = (eq ep.value).value;
  word = ep.word ++ (eq ep.value).word;
  good = good_both ep.word (eq ep.value).word ep.good (eq ep.value).good;
  spelled = record { value = ep.value; front = ep.word; back = (eq ep.value).word; first_is = ep.spelled; then_is = (eq ep.value).spelled; parts = refl };
} where
  goes_through : (ts rest' : List Word) (a : A) (mid : List Word) (u : List Word) → ((r : List Word) → first r ≡ first mid → p (u ++ r) ≡ Ok (a, r)) → (v rest : List Word) → mid ≡ v ++ rest → first rest' ≡ first rest → p (u ++ (v ++ rest')) ≡ Ok (a, v ++ rest')
  goes_through ts rest' a mid u local v rest e same = local (v ++ rest') (rw e (first_same v rest rest' same))

  taken : (ts : List Word) (b : B) (rest : List Word) → then p q ts ≡ Ok (b, rest) → Takes (Then S Q) (then p q) ts b rest
  taken ts b rest e =
      let h = bind_ok (p ts) (λ x. q x.0 x.1) (b, rest) e in
      let f = ep.takes ts h.0.0 h.0.1 h.1 in
      let g = (eq h.0.0).takes h.0.1 b rest h.2 in
      record {
        front = f.front ++ g.front;
        spelled = record { value = h.0.0; front = f.front; back = g.front; first_is = f.spelled; then_is = g.spelled; parts = refl };
        parts = f.parts ∙ ap (λ (t : List Word). f.front ++ t) g.parts ∙ sym (append_assoc f.front g.front rest);
        local = λ rest' same. rw (append_assoc f.front g.front rest', goes_through ts rest' h.0.0 h.0.1 f.front f.local g.front rest g.parts same) (g.local rest' same);
      }

  stopped : (ts : List Word) (left : ℕ) → then p q ts ≡ Err left → Stops (Then S Q) (then p q) ts left
  stopped ts left e = elim (bind_err (p ts) (λ x. q x.0 x.1) left e) [
    | inl h ↦
        let f = ep.stops ts left h in
        record {
          front = f.front;
          rest = f.rest;
          parts = f.parts;
          is_left = f.is_left;
          local = λ rest' same. rw (f.local rest' same) refl;
          tail = f.tail ++ (eq f.value).word;
          good = good_both f.tail (eq f.value).word f.good (eq f.value).good;
          value = (eq f.value).value;
          completed = record { value = f.value; front = f.front ++ f.tail; back = (eq f.value).word; first_is = f.completed; then_is = (eq f.value).spelled; parts = sym (append_assoc f.front f.tail (eq f.value).word) };
        }
    | inr h ↦
        let f = ep.takes ts h.0.0 h.0.1 h.1 in
        let g = (eq h.0.0).stops h.0.1 left h.2 in
        record {
          front = f.front ++ g.front;
          rest = g.rest;
          parts = f.parts ∙ ap (λ (t : List Word). f.front ++ t) g.parts ∙ sym (append_assoc f.front g.front g.rest);
          is_left = g.is_left;
          local = λ rest' same. rw (append_assoc f.front g.front rest', goes_through ts rest' h.0.0 h.0.1 f.front f.local g.front g.rest g.parts same) (g.local rest' same);
          tail = g.tail;
          good = g.good;
          value = g.value;
          completed = record { value = h.0.0; front = f.front; back = g.front ++ g.tail; first_is = f.spelled; then_is = g.completed; parts = append_assoc f.front g.front g.tail };
        }
  ]

  read_again : (b : B) (w rest : List Word) → Then S Q b w → ends (first rest) ≡ true → then p q (w ++ rest) ≡ Ok (b, rest)
  read_again b w rest s ok =
      let one : p (s.front ++ (s.back ++ rest)) ≡ Ok (s.value, s.back ++ rest) = ep.again s.value s.front (s.back ++ rest) s.first_is (joins s.value b s.back rest s.then_is ok) in
      rw (s.parts, append_assoc s.front s.back rest, one) ((eq s.value).again b s.back rest s.then_is ok)

-- ---- one or the other, by the first token

abbrev pub Or : {A : Type 0} → (A → List Word → Type 0) → (A → List Word → Type 0) → A → List Word → Type 0
Or S Q a w = S a w ⊎ Q a w

abbrev pub either : {A : Type 0} → (Option Word → Bool) → (List Word → Result (A × List Word) ℕ) → (List Word → Result (A × List Word) ℕ) → List Word → Result (A × List Word) ℕ
either test p q ts = cond (test (first ts)) (p ts) (q ts)

-- what the first token tells
abbrev pub Begins : {A : Type 0} → (Option Word → Bool) → Bool → (A → List Word → Type 0) → (Option Word → Bool) → Type 0
Begins {A} test is S ends = (a : A) (w rest : List Word) → S a w → ends (first rest) ≡ true → test (first (w ++ rest)) ≡ is

pub exact_either : {A : Type 0} (test : Option Word → Bool) (S : A → List Word → Type 0) (p : List Word → Result (A × List Word) ℕ)
    (Q : A → List Word → Type 0) (q : List Word → Result (A × List Word) ℕ) (ends : Option Word → Bool)
    → Exact S p ends → Exact Q q ends → Begins test true S ends → Begins test false Q ends → Exact (Or S Q) (either test p q) ends
exact_either {A} test S p Q q ends ep eq does doesnt = record {
  takes = λ ts a rest e. taken ts a rest (test (first ts)) refl e;
  stops = λ ts left e. stopped ts left (test (first ts)) refl e;
  again = read_again;
  value = ep.value;
  word = ep.word;
  good = ep.good;
  spelled = inl ep.spelled;
} where
  same_test : (ts u r r' : List Word) (b : Bool) → test (first ts) ≡ b → ts ≡ u ++ r → first r' ≡ first r → test (first (u ++ r')) ≡ b
  same_test ts u r r' b e parts same = ap test (first_same u r r' same ∙ sym (ap first parts)) ∙ e

  taken : (ts : List Word) (a : A) (rest : List Word) (b : Bool) → test (first ts) ≡ b → cond b (p ts) (q ts) ≡ Ok (a, rest) → Takes (Or S Q) (either test p q) ts a rest
  taken ts a rest true is e =
      let f = ep.takes ts a rest e in
      record { front = f.front; spelled = inl f.spelled; parts = f.parts; local = λ rest' same. rw (same_test ts f.front rest rest' true is f.parts same) (f.local rest' same) }
  taken ts a rest false is e =
      let f = eq.takes ts a rest e in
      record { front = f.front; spelled = inr f.spelled; parts = f.parts; local = λ rest' same. rw (same_test ts f.front rest rest' false is f.parts same) (f.local rest' same) }

  stopped : (ts : List Word) (left : ℕ) (b : Bool) → test (first ts) ≡ b → cond b (p ts) (q ts) ≡ Err left → Stops (Or S Q) (either test p q) ts left
  stopped ts left true is e =
      let f = ep.stops ts left e in
      record { front = f.front; rest = f.rest; parts = f.parts; is_left = f.is_left; local = λ rest' same. rw (same_test ts f.front f.rest rest' true is f.parts same) (f.local rest' same); tail = f.tail; good = f.good; value = f.value; completed = inl f.completed }
  stopped ts left false is e =
      let f = eq.stops ts left e in
      record { front = f.front; rest = f.rest; parts = f.parts; is_left = f.is_left; local = λ rest' same. rw (same_test ts f.front f.rest rest' false is f.parts same) (f.local rest' same); tail = f.tail; good = f.good; value = f.value; completed = inr f.completed }

  read_again : (a : A) (w rest : List Word) → Or S Q a w → ends (first rest) ≡ true → either test p q (w ++ rest) ≡ Ok (a, rest)
  read_again a w rest (inl s) ok = rw (does a w rest s ok) (ep.again a w rest s ok)
  read_again a w rest (inr s) ok = rw (doesnt a w rest s ok) (eq.again a w rest s ok)

-- ---- the same phrase, said otherwise

pub exact_as : {A : Type 0} (S Q : A → List Word → Type 0) (p : List Word → Result (A × List Word) ℕ) (after ends : Option Word → Bool)
    → ((a : A) (w : List Word) → S a w → Q a w) → ((a : A) (w : List Word) → Q a w → S a w) → ((o : Option Word) → ends o ≡ true → after o ≡ true) → Exact S p after → Exact Q p ends
exact_as S Q p after ends to from narrow e = record {
  takes = λ ts a rest h. let f = e.takes ts a rest h in record { front = f.front; spelled = to a f.front f.spelled; parts = f.parts; local = f.local };
  stops = λ ts left h. let f = e.stops ts left h in record { front = f.front; rest = f.rest; parts = f.parts; is_left = f.is_left; local = f.local; tail = f.tail; good = f.good; value = f.value; completed = to f.value (f.front ++ f.tail) f.completed };
  again = λ a w rest s ok. e.again a w rest (from a w s) (narrow (first rest) ok);
  value = e.value;
  word = e.word;
  good = e.good;
  spelled = to e.value e.word e.spelled;
}

-- ---- as many as there are

-- what the first token of a phrase is
abbrev pub Leads : {A : Type 0} → (Option Word → Bool) → Bool → (A → List Word → Type 0) → Type 0
Leads {A} test is S = (a : A) (w : List Word) → S a w → (t : Word) × (v : List Word) × (w ≡ t ∷ v) × (test (Some t) ≡ is)

pub record TakesAll {A : Type 0} (S : A → List Word → Type 0) (test : Option Word → Bool) (read : List Word → Result (A × List Word) ℕ) (ts : List Word) (vs : List A) (rest : List Word) : Type 0 where
  pub front : List Word
  pub spelled : Each S vs front
  pub parts : ts ≡ front ++ rest
  pub local : (n : ℕ) (rest' : List Word) → length (front ++ rest') ≤ n → first rest' ≡ first rest → many test read n (front ++ rest') ≡ Ok (vs, rest')

pub record StopsIn {A : Type 0} (S : A → List Word → Type 0) (test : Option Word → Bool) (read : List Word → Result (A × List Word) ℕ) (ts : List Word) (left : ℕ) : Type 0 where
  pub front : List Word
  pub rest : List Word
  pub parts : ts ≡ front ++ rest
  pub is_left : left ≡ length rest
  pub local : (n : ℕ) (rest' : List Word) → length (front ++ rest') ≤ n → first rest' ≡ first rest → many test read n (front ++ rest') ≡ Err (length rest')
  pub tail : List Word
  pub good : AllGood tail
  pub value : List A
  pub completed : Each S value (front ++ tail)

many_none : {A : Type 0} (test : Option Word → Bool) (read : List Word → Result (A × List Word) ℕ) (n : ℕ) (ts : List Word) → test (first ts) ≡ false → many test read n ts ≡ Ok ([], ts)
many_none test read zero ts e = refl
many_none test read (suc n) ts e = rw e refl

abbrev more : {A : Type 0} → (Option Word → Bool) → (List Word → Result (A × List Word) ℕ) → ℕ → A × List Word → Result (List A × List Word) ℕ
more test read n x = many test read n x.1 >>= put x.0

pub exact_many : {A : Type 0} (test : Option Word → Bool) (S : A → List Word → Type 0) (read : List Word → Result (A × List Word) ℕ) (after ends : Option Word → Bool)
    → Exact S read after → Leads test true S → test None ≡ false → ((o : Option Word) → test o ≡ true → after o ≡ true) → ((o : Option Word) → ends o ≡ true → after o ≡ true) → ((o : Option Word) → ends o ≡ true → test o ≡ false)
    → Exact (Each S) (λ ts. many test read (length ts) ts) ends
exact_many {A} test S read after ends ex leads at_end by_test by_ends no_test = record {
  takes = λ ts vs rest e. let f = taken (length ts) ts vs rest (omega arith) e in record { front = f.front; spelled = f.spelled; parts = f.parts; local = λ rest' same. f.local (length (f.front ++ rest')) rest' (omega arith) same };
  stops = λ ts left e. let f = stopped (length ts) ts left (omega arith) e in record { front = f.front; rest = f.rest; parts = f.parts; is_left = f.is_left; local = λ rest' same. f.local (length (f.front ++ rest')) rest' (omega arith) same; tail = f.tail; good = f.good; value = f.value; completed = f.completed };
  again = λ vs w rest s ok. read_again vs (length (w ++ rest)) w rest (omega arith) s ok;
  value = [];
  word = [];
  good = tt;
  spelled = refl;
} where
  starts : (ts u r r' : List Word) (b : Bool) → test (first ts) ≡ b → ts ≡ u ++ r → first r' ≡ first r → test (first (u ++ r')) ≡ b
  starts ts u r r' b e parts same = ap test (first_same u r r' same ∙ sym (ap first parts)) ∙ e

  begins : (a : A) (w rest : List Word) → S a w → test (first (w ++ rest)) ≡ true
  begins a w rest s = let l = leads a w s in rw l.2 l.3

  longer : (a : A) (w : List Word) → S a w → 0 < length w
  longer a w s = let l = leads a w s in rw l.2 (omega arith)

  -- one more phrase in front
  pushed : (n : ℕ) (u r : List Word) (x : A) (mid : List Word) → read (u ++ r) ≡ Ok (x, r) → test (first (u ++ r)) ≡ true → 0 < length u → length (u ++ r) ≤ n
      → (y : Result (List A × List Word) ℕ) → ((m : ℕ) → length r ≤ m → many test read m r ≡ y) → many test read n (u ++ r) ≡ (y >>= put x)
  pushed zero u r x mid e t lt le y h = absurd (omega (arith, length-append u r))
  pushed (suc n) u r x mid e t lt le y h = rw (t, e, h n (omega (arith, length-append u r))) refl

  failed : (n : ℕ) (u r : List Word) (k : ℕ) → read (u ++ r) ≡ Err k → test (first (u ++ r)) ≡ true → 0 < length (u ++ r) → length (u ++ r) ≤ n → many test read n (u ++ r) ≡ Err k
  failed zero u r k e t lt le = absurd (omega arith)
  failed (suc n) u r k e t lt le = rw (t, e) refl

  nothing : (n : ℕ) (ts : List Word) (vs : List A) (rest : List Word) → test (first ts) ≡ false → (let y : Result (List A × List Word) ℕ = Ok ([], ts) in y) ≡ Ok (vs, rest) → TakesAll S test read ts vs rest
  nothing n ts vs rest none e =
      let p : vs ≡ [] = sym (ap (λ (p : _ × _). p.0) (ok_inj ([], ts) (vs, rest) e)) in
      let q : ts ≡ rest = ap (λ (p : _ × _). p.1) (ok_inj ([], ts) (vs, rest) e) in
      record {
        front = [];
        spelled = rw p refl;
        parts = q;
        local = λ m rest' le same. rw p (many_none test read m rest' (starts ts [] rest rest' false none q same));
      }

  -- a phrase, and the phrases behind it
  one_more : (ts : List Word) (x : A) (mid : List Word) (vs : List A) (rest : List Word) → test (first ts) ≡ true → Takes S read ts x mid → TakesAll S test read mid vs rest → TakesAll S test read ts (x ∷ vs) rest
  one_more ts x mid vs rest is f r = record {
    front = f.front ++ r.front;
    spelled = record { front = f.front; back = r.front; first_is = f.spelled; then_is = r.spelled; parts = refl };
    parts = f.parts ∙ ap (λ (l : List Word). f.front ++ l) r.parts ∙ sym (append_assoc f.front r.front rest);
    local = λ m rest' le same.
        let alike : first (r.front ++ rest') ≡ first mid = rw r.parts (first_same r.front rest rest' same) in
        rw (append_assoc f.front r.front rest') (pushed m f.front (r.front ++ rest') x mid (f.local (r.front ++ rest') alike) (begins x f.front (r.front ++ rest') f.spelled) (longer x f.front f.spelled)
        (subst (λ (l : List Word). length l ≤ m) (append_assoc f.front r.front rest') le) (Ok (vs, rest')) (λ k le'. r.local k rest' le' same));
  }

  fewer : (n : ℕ) (ts : List Word) (x : A) (mid : List Word) → length ts ≤ suc n → Takes S read ts x mid → length mid ≤ n
  fewer n ts x mid le f = let l : 0 < length f.front = longer x f.front f.spelled in omega (arith, ap length f.parts, length-append f.front mid)

  take_case : (n : ℕ) (ts : List Word) (vs : List A) (rest : List Word) → length ts ≤ suc n → (b : Bool) → test (first ts) ≡ b
      → ((ts : List Word) (vs : List A) (rest : List Word) → length ts ≤ n → many test read n ts ≡ Ok (vs, rest) → TakesAll S test read ts vs rest)
      → cond b (read ts >>= more test read n) (Ok ([], ts)) ≡ Ok (vs, rest) → TakesAll S test read ts vs rest
  take_case n ts vs rest le false is rec e = nothing n ts vs rest is e
  take_case n ts vs rest le true is rec e =
      let h = bind_ok (read ts) (more test read n) (vs, rest) e in
      let g = bind_ok (many test read n h.0.1) (put h.0.0) (vs, rest) h.2 in
      let f = ex.takes ts h.0.0 h.0.1 h.1 in
      subst (λ (p : List A × List Word). TakesAll S test read ts p.0 p.1) (ok_inj (h.0.0 ∷ g.0.0, g.0.1) (vs, rest) g.2)
      (one_more ts h.0.0 h.0.1 g.0.0 g.0.1 is f (rec h.0.1 g.0.0 g.0.1 (fewer n ts h.0.0 h.0.1 le f) g.1))

  taken : (n : ℕ) (ts : List Word) (vs : List A) (rest : List Word) → length ts ≤ n → many test read n ts ≡ Ok (vs, rest) → TakesAll S test read ts vs rest
  taken zero [] vs rest le e = nothing 0 [] vs rest at_end e
  taken zero (t ∷ ts) vs rest le e = absurd (omega arith)
  taken (suc n) ts vs rest le e = take_case n ts vs rest le (test (first ts)) refl (taken n) e

  nonempty : (ts : List Word) → test (first ts) ≡ true → 0 < length ts
  nonempty [] e = absurd cc
  nonempty (t ∷ ts) e = omega arith

  stop_here : (ts : List Word) (left : ℕ) → test (first ts) ≡ true → Stops S read ts left → StopsIn S test read ts left
  stop_here ts left is f = record {
    front = f.front;
    rest = f.rest;
    parts = f.parts;
    is_left = f.is_left;
    local = λ m rest' le same.
        let t : test (first (f.front ++ rest')) ≡ true = starts ts f.front f.rest rest' true is f.parts same in
        failed m f.front rest' (length rest') (f.local rest' same) t (nonempty (f.front ++ rest') t) le;
    tail = f.tail;
    good = f.good;
    value = f.value ∷ [];
    completed = record { front = f.front ++ f.tail; back = []; first_is = f.completed; then_is = refl; parts = sym (append-nil (f.front ++ f.tail)) };
  }

  stop_later : (ts : List Word) (x : A) (mid : List Word) (left : ℕ) → test (first ts) ≡ true → Takes S read ts x mid → StopsIn S test read mid left → StopsIn S test read ts left
  stop_later ts x mid left is f r = record {
    front = f.front ++ r.front;
    rest = r.rest;
    parts = f.parts ∙ ap (λ (l : List Word). f.front ++ l) r.parts ∙ sym (append_assoc f.front r.front r.rest);
    is_left = r.is_left;
    local = λ m rest' le same.
        let alike : first (r.front ++ rest') ≡ first mid = rw r.parts (first_same r.front r.rest rest' same) in
        rw (append_assoc f.front r.front rest') (pushed m f.front (r.front ++ rest') x mid (f.local (r.front ++ rest') alike) (begins x f.front (r.front ++ rest') f.spelled) (longer x f.front f.spelled)
        (subst (λ (l : List Word). length l ≤ m) (append_assoc f.front r.front rest') le) (Err (length rest')) (λ k le'. r.local k rest' le' same));
    tail = r.tail;
    good = r.good;
    value = x ∷ r.value;
    completed = record { front = f.front; back = r.front ++ r.tail; first_is = f.spelled; then_is = r.completed; parts = append_assoc f.front r.front r.tail };
  }

  stop_case : (n : ℕ) (ts : List Word) (left : ℕ) → length ts ≤ suc n → (b : Bool) → test (first ts) ≡ b
      → ((ts : List Word) (left : ℕ) → length ts ≤ n → many test read n ts ≡ Err left → StopsIn S test read ts left)
      → cond b (read ts >>= more test read n) (Ok ([], ts)) ≡ Err left → StopsIn S test read ts left
  stop_case n ts left le false is rec e = absurd cc
  stop_case n ts left le true is rec e = elim (bind_err (read ts) (more test read n) left e) [
    | inl h ↦ stop_here ts left is (ex.stops ts left h)
    | inr h ↦
        let f = ex.takes ts h.0.0 h.0.1 h.1 in
        elim (bind_err (many test read n h.0.1) (put h.0.0) left h.2) [
          | inl g ↦ stop_later ts h.0.0 h.0.1 left is f (rec h.0.1 left (fewer n ts h.0.0 h.0.1 le f) g)
          | inr g ↦ let bad : (let y : Result (List A × List Word) ℕ = Ok (h.0.0 ∷ g.0.0, g.0.1) in y) ≡ Err left = g.2 in absurd cc
        ]
  ]

  stopped : (n : ℕ) (ts : List Word) (left : ℕ) → length ts ≤ n → many test read n ts ≡ Err left → StopsIn S test read ts left
  stopped zero ts left le e = absurd cc
  stopped (suc n) ts left le e = stop_case n ts left le (test (first ts)) refl (stopped n) e

  follows : (vs : List A) (w rest : List Word) → Each S vs w → ends (first rest) ≡ true → after (first (w ++ rest)) ≡ true
  follows [] w rest s ok = rw s (by_ends (first rest) ok)
  follows (v ∷ vs) w rest s ok =
      let l = leads v s.front s.first_is in
      rw (s.parts, l.2) (by_test (Some l.0) l.3)

  read_again : (vs : List A) (n : ℕ) (w rest : List Word) → length (w ++ rest) ≤ n → Each S vs w → ends (first rest) ≡ true → many test read n (w ++ rest) ≡ Ok (vs, rest)
  read_again [] n w rest le s ok = rw s (many_none test read n rest (no_test (first rest) ok))
  read_again (v ∷ vs) n w rest le s ok =
      let e : w ++ rest ≡ s.front ++ (s.back ++ rest) = rw s.parts (append_assoc s.front s.back rest) in
      rw e (pushed n s.front (s.back ++ rest) v rest (ex.again v s.front (s.back ++ rest) s.first_is (follows vs s.back rest s.then_is ok)) (begins v s.front (s.back ++ rest) s.first_is) (longer v s.front s.first_is)
      (subst (λ (l : List Word). length l ≤ n) e le) (Ok (vs, rest)) (λ m le'. read_again vs m s.back rest le' s.then_is ok))

-- ---- a phrase of several fields: the value is made of the fields, and their texts stand one behind the other

abbrev pub Of : {P V : Type 0} → (P → V) → (P → List Word → Type 0) → V → List Word → Type 0
Of {P} {V} make R v w = (x : P) × (v ≡ make x) × R x w

-- what may stand behind a text of `after`, P with what `ends` allows does
pub record Meets (after : Option Word → Bool) (P : List Word → Type 0) (ends : Option Word → Bool) : Type 0 where
  pub at : (w rest : List Word) → P w → ends (first rest) ≡ true → after (first (w ++ rest)) ≡ true

abbrev pub made : {A V : Type 0} → (A → V) → A × List Word → Result (V × List Word) ℕ
made f x = Ok (f x.0, x.1)

pub field : {A P V : Type 0} {S : A → List Word → Type 0} {p : List Word → Result (A × List Word) ℕ} {after : Option Word → Bool} {make : A → P → V} {R : P → List Word → Type 0} {q : A → List Word → Result (V × List Word) ℕ} {ends : Option Word → Bool}
    → Exact S p after → ((a : A) → Exact (Of (make a) R) (q a) ends) → ((x : P) → Meets after (R x) ends)
    → Exact (Of (λ (y : A × P). make y.0 y.1) (λ (y : A × P). Both (S y.0) (R y.1))) (then p q) ends
field {A} {P} {V} {S} {p} {after} {make} {R} {q} {ends} ep eq meets =
    exact_as (Then S (λ a. Of (make a) R)) (Of (λ (y : A × P). make y.0 y.1) (λ (y : A × P). Both (S y.0) (R y.1))) (then p q) ends ends
    (λ v w t. ((t.value, t.then_is.0), t.then_is.1, record { front = t.front; back = t.back; first_is = t.first_is; then_is = t.then_is.2; parts = t.parts }))
    (λ v w o. record { value = o.0.0; front = o.2.front; back = o.2.back; first_is = o.2.first_is; then_is = (o.0.1, o.1, o.2.then_is); parts = o.2.parts })
    (λ o ok. ok)
    (exact_then S p after (λ a. Of (make a) R) q ends ep eq (λ a b w rest o ok. (meets o.0).at w rest o.2 ok))

-- behind a text that anything may follow
pub field_any : {A P V : Type 0} {S : A → List Word → Type 0} {p : List Word → Result (A × List Word) ℕ} {make : A → P → V} {R : P → List Word → Type 0} {q : A → List Word → Result (V × List Word) ℕ} {ends : Option Word → Bool}
    → Exact S p any → ((a : A) → Exact (Of (make a) R) (q a) ends)
    → Exact (Of (λ (y : A × P). make y.0 y.1) (λ (y : A × P). Both (S y.0) (R y.1))) (then p q) ends
field_any ep eq = field ep eq (λ x. record { at = λ w rest r ok. refl })

-- the last field
pub last : {A V : Type 0} {S : A → List Word → Type 0} {p : List Word → Result (A × List Word) ℕ} {after : Option Word → Bool} (make : A → V)
    → Exact S p after → Exact (Of make S) (λ ts. p ts >>= made make) after
last {A} {V} {S} {p} {after} make e = record {
  takes = taken;
  stops = λ ts left h. elim (bind_err (p ts) (made make) left h) [
    | inl g ↦ let f = e.stops ts left g in record { front = f.front; rest = f.rest; parts = f.parts; is_left = f.is_left; local = λ rest' same. rw (f.local rest' same) refl; tail = f.tail; good = f.good; value = make f.value; completed = (f.value, refl, f.completed) }
    | inr g ↦ absurd (ok_isnt_err (make g.0.0, g.0.1) left g.2)
  ];
  again = λ v w rest o ok. rw (e.again o.0 w rest o.2 ok) (ap (λ (u : V). Ok (u, rest)) (sym o.1));
  value = make e.value;
  word = e.word;
  good = e.good;
  spelled = (e.value, refl, e.spelled);
} where
  ok_isnt_err : {X : Type 0} (x : X) (k : ℕ) → (let y : Result X ℕ = Ok x in y) ≡ Err k → ⊥
  ok_isnt_err x k h = cc

  taken : (ts : List Word) (v : V) (rest : List Word) → (p ts >>= made make) ≡ Ok (v, rest) → Takes (Of make S) (λ ts. p ts >>= made make) ts v rest
  taken ts v rest h =
      let g = bind_ok (p ts) (made make) (v, rest) h in
      let f = e.takes ts g.0.0 g.0.1 g.1 in
      let is : (make g.0.0, g.0.1) ≡ (v, rest) = ok_inj (make g.0.0, g.0.1) (v, rest) g.2 in
      let t : Takes (Of make S) (λ ts. p ts >>= made make) ts (make g.0.0) g.0.1 = record { front = f.front; spelled = (g.0.0, refl, f.spelled); parts = f.parts; local = λ rest' same. rw (f.local rest' same) refl } in
      subst (λ (z : V × List Word). Takes (Of make S) (λ ts. p ts >>= made make) ts z.0 z.1) is t

-- the same phrase, said in the words of the tree
pub said : {P V : Type 0} {make : P → V} {R : P → List Word → Type 0} {p : List Word → Result (V × List Word) ℕ} {after : Option Word → Bool} (Q : V → List Word → Type 0)
    → ((x : P) (w : List Word) → R x w → Q (make x) w) → ((v : V) (w : List Word) → Q v w → Of make R v w) → Exact (Of make R) p after → Exact Q p after
said {P} {V} {make} {R} {p} {after} Q to from e = exact_as (Of make R) Q p after after (λ v w o. subst (λ (u : V). Q u w) (sym o.1) (to o.0 w o.2)) from (λ o ok. ok) e

-- what may follow: narrower
pub narrow : {A : Type 0} {S : A → List Word → Type 0} {p : List Word → Result (A × List Word) ℕ} {after : Option Word → Bool} (ends : Option Word → Bool) → ((o : Option Word) → ends o ≡ true → after o ≡ true) → Exact S p after → Exact S p ends
narrow {A} {S} {p} {after} ends h e = exact_as S S p after ends (λ a w s. s) (λ a w s. s) h e

pub meets_both : {after between ends : Option Word → Bool} {P Q : List Word → Type 0} → Meets after P between → Meets between Q ends → Meets after (Both P Q) ends
meets_both mp mq = record { at = λ w rest s ok. rw (s.parts, append_assoc s.front s.back rest) (mp.at s.front (s.back ++ rest) s.first_is (mq.at s.back rest s.then_is ok)) }

-- behind one that begins with this token
pub meets_token : {after ends : Option Word → Bool} {Q : List Word → Type 0} (t : Word) → after (Some t) ≡ true → Meets after (Both (λ w. w ≡ t ∷ []) Q) ends
meets_token t h = record { at = λ w rest s ok. rw (s.parts, s.first_is) h }

pub meets_one : {after ends : Option Word → Bool} (t : Word) → after (Some t) ≡ true → Meets after (λ w. w ≡ t ∷ []) ends
meets_one t h = record { at = λ w rest s ok. rw s h }

pub meets_lead : {after ends : Option Word → Bool} {P Q : List Word → Type 0} → Meets after P any → Meets after (Both P Q) ends
meets_lead mp = meets_both mp (record { at = λ w rest s ok. refl })

pub lead_token : (test : Option Word → Bool) (is : Bool) (t : Word) {Q : List Word → Type 0} → test (Some t) ≡ is → (w : List Word) → Both (λ v. v ≡ t ∷ []) Q w → (t : Word) × (v : List Word) × (w ≡ t ∷ v) × (test (Some t) ≡ is)
lead_token test is t h w s = (t, s.back, s.parts ∙ ap (λ (f : List _). f ++ s.back) s.first_is, h)

-- what leads a front leads the whole
pub lead_front : (test : Option Word → Bool) (is : Bool) (P : List Word → Type 0) {Q : List Word → Type 0} → ((w : List Word) → P w → (t : Word) × (v : List Word) × (w ≡ t ∷ v) × (test (Some t) ≡ is)) → (w : List Word) → Both P Q w → (t : Word) × (v : List Word) × (w ≡ t ∷ v) × (test (Some t) ≡ is)
lead_front test is P h w s = let l = h s.front s.first_is in (l.0, l.1 ++ s.back, s.parts ∙ ap (λ (f : List _). f ++ s.back) l.2, l.3)

pub leads_begins : {A : Type 0} (test : Option Word → Bool) (is : Bool) (S : A → List Word → Type 0) (ends : Option Word → Bool) → Leads test is S → Begins test is S ends
leads_begins test is S ends leads a w rest s ok = let l = leads a w s in rw l.2 l.3

pub done_begins : {A : Type 0} (test : Option Word → Bool) (is : Bool) (v : A) (ends : Option Word → Bool) → ((o : Option Word) → ends o ≡ true → test o ≡ is) → Begins test is (Done v) ends
done_begins test is v ends h a w rest s ok = rw s.1 (h (first rest) ok)

-- a phrase or none
pub exact_perhaps : {A : Type 0} (test : Option Word → Bool) (S : A → List Word → Type 0) (p : List Word → Result (A × List Word) ℕ) (after ends : Option Word → Bool)
    → Exact S p after → Leads test true S → ((o : Option Word) → ends o ≡ true → after o ≡ true) → ((o : Option Word) → ends o ≡ true → test o ≡ false)
    → Exact (Perhaps S) (λ ts. cond (test (first ts)) (p ts >>= λ x. Ok (Some x.0, x.1)) (Ok (None, ts))) ends
exact_perhaps {A} test S p after ends e leads by_ends no_test =
    exact_as (Or (Of Some S) (Done None)) (Perhaps S) (λ ts. cond (test (first ts)) (p ts >>= λ x. Ok (Some x.0, x.1)) (Ok (None, ts))) ends ends to from (λ o ok. ok)
    (exact_either test (Of Some S) (λ ts. p ts >>= λ x. Ok (Some x.0, x.1)) (Done None) (λ ts. Ok (None, ts)) ends (narrow ends by_ends (last Some e)) (narrow ends (λ o ok. refl) (done None))
    (λ o w rest s ok. let l = leads s.0 w s.2 in rw l.2 l.3) (done_begins test false None ends no_test)) where
      to : (o : Option A) (w : List Word) → Or (Of Some S) (Done None) o w → Perhaps S o w
      to o w (inl s) = subst (λ (u : Option A). Perhaps S u w) (sym s.1) s.2
      to o w (inr s) = subst (λ (u : Option A). Perhaps S u w) (sym s.0) s.1

      from : (o : Option A) (w : List Word) → Perhaps S o w → Or (Of Some S) (Done None) o w
      from None w s = inr (refl, s)
      from (Some a) w s = inl (a, refl, s)
