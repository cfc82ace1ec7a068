-- The words that a command of two positionals takes, by the grammar.
use Rattle.std.proofs.Common.{ap₂, ◌≡◌, ◌∙◌, ◌==◌, ◌||◌, ap, sym, cond, [], ◌∷◌, List, Option, Some, None, ℕ, Bool, false, true, codes, refl, option_map, length, suc, drop}
use Rattle.std.specs.Prelude.{slice_get, encode_utf8}
use Rattle.clap.specs.Simple.{filled, help_rule, with_index}
use Rattle.std.specs.Str.{bytes_eq, chars}
use Rattle.clap.specs.Words.{Rule, Text, fault_of, first_of, matches_of, built, Kinds}
use Rattle.clap.specs.Walk.{Held, Names, Row, Walk, arg_by_long, finished, idle, nothing_held, reacted, settled, walked}
use Rattle.clap.specs.Simple.{Shape, names_of}
use Rattle.std.specs.Prelude.{fold}
use Rattle.clap.specs.declared.parser.matches.ValueSource.TheVariants.{CommandLine}
use Rattle.clap.specs.declared.builder.value_parser.Reading.TheVariants.{AsWritten}
use Rattle.clap.specs.Faults.{check_fault, defaults_fault, flags_fault, long_fault, react_fault, settle_fault, short_fault, turn_fault, walk_fault}
use Rattle.clap.specs.Kinds.{or_else}
use Rattle.clap.specs.Lexer.{long_of, name_and_value, short_of}
use Rattle.clap.specs.declared.error.kind.ErrorKind.{ErrorKind}
use Rattle.clap.specs.declared.error.kind.ErrorKind.TheVariants as kind
use Rattle.clap.proofs.OnLiterals.{clap_on_literals}
use Rattle.clap.proofs.FaultLemmas.{leaf_fault}
use Rattle.lrat_check.specs.Usage.{lrat_command}
use Rattle.lrat_check.specs.Grammar.{has_length, has_values, is_value, values_in}

-- the word stands for itself
abbrev pub IsPlainWord : Text → Type 0
IsPlainWord w = (long_of w ≡ None) × (short_of w ≡ None) × (bytes_eq w (45 ∷ 45 ∷ []) ≡ false)

-- what begins with a hyphen has a character after it, as in each text that is UTF-8
abbrev pub HasChars : Text → Type 0
HasChars w = (flags : Text) → short_of w ≡ Some flags → (x : ℕ) × (slice_get (chars flags) 0 ≡ Some x)

abbrev pub AllHaveChars : List Text → Type 0
AllHaveChars [] = Unit {0}
AllHaveChars (w ∷ ws) = HasChars w × AllHaveChars ws

abbrev pub none_of : Kinds → Bool
none_of [] = true
none_of (k ∷ ks) = false

some_after : (a : Kinds) (k : ErrorKind) (ks : Kinds) → none_of (or_else a (k ∷ ks)) ≡ false
some_after [] k ks = refl
some_after (x ∷ xs) k ks = refl

none_first : (a b : Kinds) → none_of a ≡ false → none_of (or_else a b) ≡ false
none_first [] b e = cc
none_first (k ∷ ks) b e = refl

abbrev rules : List Rule
rules = (built lrat_command).top.rules

abbrev names : Names
names = names_of (built lrat_command)

abbrev help : Rule
help = with_index 3 (filled help_rule)

-- a word `--name` is refused
long_refused : (name : Text) (v : Option Text) (h : Held) → none_of (long_fault rules false (arg_by_long rules name) v h) ≡ false
unfolding clap_on_literals lrat_command
long_refused name v h = go (bytes_eq (codes "help") name || false) v
  where
    go : (b : Bool) (o : Option Text) → none_of (long_fault rules false (cond b (Some help) None) o h) ≡ false
    go false o = refl
    go true (Some t) = refl
    go true None = some_after _ _ _

-- and so is one that begins with a hyphen and a character
short_refused : (flags : Text) (x : ℕ) (k : ℕ) (h : Held) → slice_get (chars flags) 0 ≡ Some x → none_of (flags_fault rules false (suc k) flags 0 h) ≡ false
unfolding flags_fault lrat_command
short_refused flags x k h e = rw e (go (104 == x || false))
  where
    go : (b : Bool) → none_of (short_fault rules false (cond b (Some help) None) (drop (length (encode_utf8 x)) flags) h
        (flags_fault rules false k (drop (length (encode_utf8 x)) flags) 0)) ≡ false
    go false = refl
    go true = none_first (react_fault rules false help [] h) (flags_fault rules false k (drop (length (encode_utf8 x)) flags) 0 (reacted rules help [] h))
        (some_after (settle_fault rules false h) kind.DisplayHelp [])

abbrev top : Shape
top = (built lrat_command).top

-- the words from a state on are taken
abbrev passes : Walk → List Text → Bool
passes w ws = let end = (fold (walked rules names) w ws).held in
    none_of (or_else (walk_fault top names w ws) (or_else [] (or_else (settle_fault rules false end)
    (or_else (defaults_fault (settled rules end).rows rules) (check_fault top (finished rules end) false)))))

abbrev hold : List Row → Option (Text × List Text) → Held
hold rows pending = record { rows = rows; pending = pending; skip = 0 }

abbrev state : Held → ℕ → Bool → Walk
state h position trailing = record { held = h; waiting = idle; position = position; is_trailing = trailing; stopped = None }

abbrev held1 : Text → Held
held1 a = hold [] (Some (codes "CNF", a ∷ []))

abbrev row1 : Text → Row
row1 a = record { id = codes "CNF"; values = a ∷ []; count = None; source = Some CommandLine; reading = AsWritten }

abbrev held2 : Text → Text → Held
held2 a b = hold (row1 a ∷ []) (Some (codes "PROOF", b ∷ []))

t2 : (a b : Text) (ws : List Text) → passes (state (held2 a b) 3 true) ws ≡ has_values 0 (Some ws)
unfolding clap_on_literals lrat_command
t2 a b [] = refl
t2 a b (x ∷ xs) = refl

t1 : (a : Text) (ws : List Text) → passes (state (held1 a) 2 true) ws ≡ has_values 1 (Some ws)
unfolding clap_on_literals lrat_command
t1 a [] = refl
t1 a (x ∷ xs) = t2 a x xs

t0 : (ws : List Text) → passes (state (hold [] None) 1 true) ws ≡ has_values 2 (Some ws)
unfolding clap_on_literals lrat_command
t0 [] = refl
t0 (x ∷ xs) = t1 x xs

-- a word that is refused, wherever it stands before `--`
data Refused (w : Text) : Type 0 where
  long : (p : Text × Option Text) → bytes_eq w (45 ∷ 45 ∷ []) ≡ false → long_of w ≡ Some p → Refused w
  short : (y : ℕ) (ys : Text) (x : ℕ) → bytes_eq w (45 ∷ 45 ∷ []) ≡ false → long_of w ≡ None → short_of w ≡ Some (y ∷ ys) → slice_get (chars (y ∷ ys)) 0 ≡ Some x → Refused w

some_of : (a : Kinds) → none_of a ≡ false → (k : ErrorKind) × (ks : Kinds) × (a ≡ k ∷ ks)
some_of [] e = cc
some_of (k ∷ ks) e = (k, ks, refl)

refused : (rows : List Row) (pending : Option (Text × List Text)) (position : ℕ) (w : Text) (ws : List Text) → Refused w
    → passes (state (hold rows pending) position false) (w ∷ ws) ≡ false
unfolding walk_fault lrat_command
refused rows pending position w ws (long p dashes is) =
    let some = some_of _ (long_refused p.0 p.1 (hold rows pending)) in
    rw (dashes, is, some.2) refl
refused rows pending position w ws (short y ys x dashes no_long is first) =
    let some = some_of _ (short_refused (y ∷ ys) x (length ys) (hold rows pending) first) in
    rw (dashes, no_long, is, some.2) refl

-- each word stands for itself, is `--` or is refused
data Class (w : Text) : Type 0 where
  plain : IsPlainWord w → is_value w ≡ true → Class w
  dashes : bytes_eq w (45 ∷ 45 ∷ []) ≡ true → Class w
  refusal : bytes_eq w (45 ∷ 45 ∷ []) ≡ false → is_value w ≡ false → Refused w → Class w

classify : (w : Text) → HasChars w → Class w
classify [] h = plain (refl, refl, refl) refl
classify (x ∷ xs) h = first (x == 45) refl xs h
  where
    third : (ys : Text) (y : ℕ) → (x == 45) ≡ true → (y == 45) ≡ true → Class (x ∷ y ∷ ys)
    third [] y e f = dashes (rw (e, f) refl)
    third (z ∷ zs) y e f = refusal (rw (e, f) refl) (rw e refl) (long (name_and_value (z ∷ zs)) (rw (e, f) refl) (rw (e, f) refl))

    second : (b : Bool) (y : ℕ) (ys : Text) → (x == 45) ≡ true → (y == 45) ≡ b → HasChars (x ∷ y ∷ ys) → Class (x ∷ y ∷ ys)
    second true y ys e f h = third ys y e f
    second false y ys e f h =
        let is : short_of (x ∷ y ∷ ys) ≡ Some (y ∷ ys) = rw (e, f) refl in
        let c = h (y ∷ ys) is in
        refusal (rw (e, f) refl) (rw e refl) (short y ys c.0 (rw (e, f) refl) (rw (e, f) refl) is c.1)

    rest : (xs : Text) → (x == 45) ≡ true → HasChars (x ∷ xs) → Class (x ∷ xs)
    rest [] e h = plain (rw e refl, rw e refl, rw e refl) refl
    rest (y ∷ ys) e h = second (y == 45) y ys e refl h

    first : (b : Bool) → (x == 45) ≡ b → (xs : Text) → HasChars (x ∷ xs) → Class (x ∷ xs)
    first false e [] h = plain (rw e refl, rw e refl, rw e refl) refl
    first false e (y ∷ ys) h = plain (rw e refl, rw e refl, rw e refl) (rw e refl)
    first true e xs h = rest xs e h

none_more : (w : Text) (o : Option (List Text)) → false ≡ has_values 0 (option_map (λ vs. w ∷ vs) o)
none_more w None = refl
none_more w (Some vs) = refl

one_more : (n : ℕ) (w : Text) (o : Option (List Text)) → has_values n o ≡ has_values (suc n) (option_map (λ vs. w ∷ vs) o)
one_more n w None = refl
one_more n w (Some vs) = refl

no_values : (n : ℕ) (w : Text) (ws : List Text) → bytes_eq w (45 ∷ 45 ∷ []) ≡ false → is_value w ≡ false → false ≡ has_values n (values_in (w ∷ ws))
no_values n w ws d v = rw (d, v) refl

-- the final checks, of a state after which no word stands
abbrev end_fault : Held → Kinds
end_fault end = or_else [] (or_else (settle_fault rules false end)
    (or_else (defaults_fault (settled rules end).rows rules) (check_fault top (finished rules end) false)))

-- a word that passes, and the state after it
step_passes : (st after : Walk) (w : Text) (ws : List Text) → turn_fault top names st w ≡ [] → walked rules names st w ≡ after
    → passes st (w ∷ ws) ≡ passes after ws
unfolding walk_fault
step_passes st after w ws turn next =
    ap₂ (λ (k : Kinds) (s : Walk). none_of (or_else (or_else k (walk_fault top names s ws)) (end_fault (fold (walked rules names) s ws).held))) turn next

-- a value to the positional at each place, and `--`
value0 : (w : Text) → IsPlainWord w → (turn_fault top names (state (hold [] None) 1 false) w ≡ []) × (walked rules names (state (hold [] None) 1 false) w ≡ state (held1 w) 2 false)
unfolding clap_on_literals lrat_command
value0 w p = (rw (p.0, p.1, p.2) refl, rw (p.0, p.1, p.2) refl)

value1 : (a w : Text) → IsPlainWord w → (turn_fault top names (state (held1 a) 2 false) w ≡ []) × (walked rules names (state (held1 a) 2 false) w ≡ state (held2 a w) 3 false)
unfolding clap_on_literals lrat_command
value1 a w p = (rw (p.0, p.1, p.2) refl, rw (p.0, p.1, p.2) refl)

dashes_at : (h : Held) (position : ℕ) (w : Text) → bytes_eq w (45 ∷ 45 ∷ []) ≡ true
    → (turn_fault top names (state h position false) w ≡ []) × (walked rules names (state h position false) w ≡ state h position true)
unfolding clap_on_literals lrat_command
dashes_at h position w d = (rw d refl, rw d refl)

-- where there is no place any more, a value is refused
stray2 : (a b w : Text) (ws : List Text) → IsPlainWord w → passes (state (held2 a b) 3 false) (w ∷ ws) ≡ false
unfolding clap_on_literals lrat_command
stray2 a b w ws p =
    let turn : turn_fault top names (state (held2 a b) 3 false) w ≡ kind.UnknownArgument ∷ [] = rw (p.0, p.1, p.2) refl in
    ap (λ (k : Kinds). none_of (or_else (or_else k (walk_fault top names (walked rules names (state (held2 a b) 3 false) w) ws))
    (end_fault (fold (walked rules names) (state (held2 a b) 3 false) (w ∷ ws)).held))) turn

plain_values : (n : ℕ) (w : Text) (ws : List Text) → IsPlainWord w → is_value w ≡ true → has_values n (option_map (λ vs. w ∷ vs) (values_in ws)) ≡ has_values n (values_in (w ∷ ws))
plain_values n w ws p v = rw (p.2, v) refl

dash_values : (n : ℕ) (w : Text) (ws : List Text) → bytes_eq w (45 ∷ 45 ∷ []) ≡ true → has_values n (Some ws) ≡ has_values n (values_in (w ∷ ws))
dash_values n w ws d = rw d refl

s2 : (a b : Text) (ws : List Text) → AllHaveChars ws → passes (state (held2 a b) 3 false) ws ≡ has_values 0 (values_in ws)
unfolding clap_on_literals lrat_command
s2 a b [] h = refl
s2 a b (w ∷ ws) h = elim (classify w h.0) [
  | plain p v ↦ stray2 a b w ws p ∙ (none_more w (values_in ws) ∙ plain_values 0 w ws p v)
  | dashes d ↦ (let now = dashes_at (held2 a b) 3 w d in step_passes (state (held2 a b) 3 false) (state (held2 a b) 3 true) w ws now.0 now.1 ∙ (t2 a b ws ∙ dash_values 0 w ws d))
  | refusal d v r ↦ refused (row1 a ∷ []) (Some (codes "PROOF", b ∷ [])) 3 w ws r ∙ no_values 0 w ws d v
]

s1 : (a : Text) (ws : List Text) → AllHaveChars ws → passes (state (held1 a) 2 false) ws ≡ has_values 1 (values_in ws)
unfolding clap_on_literals lrat_command
s1 a [] h = refl
s1 a (w ∷ ws) h = elim (classify w h.0) [
  | plain p v ↦ (let now = value1 a w p in step_passes (state (held1 a) 2 false) (state (held2 a w) 3 false) w ws now.0 now.1 ∙ (s2 a w ws h.1 ∙ (one_more 0 w (values_in ws) ∙ plain_values 1 w ws p v)))
  | dashes d ↦ (let now = dashes_at (held1 a) 2 w d in step_passes (state (held1 a) 2 false) (state (held1 a) 2 true) w ws now.0 now.1 ∙ (t1 a ws ∙ dash_values 1 w ws d))
  | refusal d v r ↦ refused [] (Some (codes "CNF", a ∷ [])) 2 w ws r ∙ no_values 1 w ws d v
]

s0 : (ws : List Text) → AllHaveChars ws → passes (state (hold [] None) 1 false) ws ≡ has_values 2 (values_in ws)
unfolding clap_on_literals lrat_command
s0 [] h = refl
s0 (w ∷ ws) h = elim (classify w h.0) [
  | plain p v ↦ (let now = value0 w p in step_passes (state (hold [] None) 1 false) (state (held1 w) 2 false) w ws now.0 now.1 ∙ (s1 w ws h.1 ∙ (one_more 1 w (values_in ws) ∙ plain_values 2 w ws p v)))
  | dashes d ↦ (let now = dashes_at (hold [] None) 1 w d in step_passes (state (hold [] None) 1 false) (state (hold [] None) 1 true) w ws now.0 now.1 ∙ (t0 ws ∙ dash_values 2 w ws d))
  | refusal d v r ↦ refused [] None 1 w ws r ∙ no_values 2 w ws d v
]

-- `rsfq_lrat` takes the words exactly where they have two values and nothing else
pub lrat_takes : (ws : List Text) → AllHaveChars ws → none_of (fault_of lrat_command ws) ≡ has_values 2 (values_in ws)
unfolding lrat_command
lrat_takes ws h = ap none_of (leaf_fault (built lrat_command) nothing_held ws refl) ∙ s0 ws h

-- the two values that a parse from a state on finds
abbrev pub Two : Type 0
Two = Option Text × Option Text

abbrev reads : Walk → List Text → Two
reads st ws = let rows = finished rules (fold (walked rules names) st ws).held in
    (first_of (codes "CNF") rows, first_of (codes "PROOF") rows)

step_reads : (st after : Walk) (w : Text) (ws : List Text) → walked rules names st w ≡ after → reads st (w ∷ ws) ≡ reads after ws
step_reads st after w ws next = ap (λ (s : Walk). reads s ws) next

-- the values that are left
abbrev Left : ℕ → Option (List Text) → List Text → Type 0
Left n o vs = (o ≡ Some vs) × (has_length n vs ≡ true)

left_more : (n : ℕ) (w : Text) (o : Option (List Text)) (vs : List Text) → option_map (λ us. w ∷ us) o ≡ Some vs → has_length (suc n) vs ≡ true
    → (us : List Text) × Left n o us × (vs ≡ w ∷ us)
left_more n w None vs e h = cc
left_more n w (Some us) vs e h =
    let is : vs ≡ w ∷ us = cc in
    (us, (refl, rw is at h), is)

no_left : (w : Text) (o : Option (List Text)) (vs : List Text) → option_map (λ us. w ∷ us) o ≡ Some vs → has_length 0 vs ≡ true → ⊥
no_left w None vs e h = cc
no_left w (Some us) [] e h = cc
no_left w (Some us) (v ∷ vs) e h = cc

plain_is : (w : Text) (ws : List Text) → IsPlainWord w → is_value w ≡ true → values_in (w ∷ ws) ≡ option_map (λ vs. w ∷ vs) (values_in ws)
plain_is w ws p v = rw (p.2, v) refl

dashes_is : (w : Text) (ws : List Text) → bytes_eq w (45 ∷ 45 ∷ []) ≡ true → values_in (w ∷ ws) ≡ Some ws
dashes_is w ws d = rw d refl

refused_is : (w : Text) (ws : List Text) → bytes_eq w (45 ∷ 45 ∷ []) ≡ false → is_value w ≡ false → values_in (w ∷ ws) ≡ None
refused_is w ws d v = rw (d, v) refl

rt2 : (a b : Text) (ws vs : List Text) → ws ≡ vs → has_length 0 vs ≡ true → reads (state (held2 a b) 3 true) ws ≡ (Some a, Some b)
unfolding clap_on_literals lrat_command
rt2 a b [] vs e h = refl
rt2 a b (w ∷ ws) [] e h = cc
rt2 a b (w ∷ ws) (v ∷ vs) e h = cc

rt1 : (a : Text) (ws : List Text) (b : Text) → ws ≡ b ∷ [] → reads (state (held1 a) 2 true) ws ≡ (Some a, Some b)
unfolding clap_on_literals lrat_command
rt1 a ws b e = rw e refl

rt0 : (ws : List Text) (a b : Text) → ws ≡ a ∷ b ∷ [] → reads (state (hold [] None) 1 true) ws ≡ (Some a, Some b)
unfolding clap_on_literals lrat_command
rt0 ws a b e = rw e refl

r2 : (a b : Text) (ws : List Text) → AllHaveChars ws → values_in ws ≡ Some [] → reads (state (held2 a b) 3 false) ws ≡ (Some a, Some b)
unfolding clap_on_literals lrat_command
r2 a b [] h e = refl
r2 a b (w ∷ ws) h e = elim (classify w h.0) [
  | plain p v ↦ absurd (no_left w (values_in ws) [] (sym (plain_is w ws p v) ∙ e) refl)
  | dashes d ↦ (let none : ws ≡ [] = let both = dashes_is w ws d in cc in
      step_reads (state (held2 a b) 3 false) (state (held2 a b) 3 true) w ws (dashes_at (held2 a b) 3 w d).1 ∙ rt2 a b ws [] none refl)
  | refusal d v r ↦ (let bad = refused_is w ws d v in cc)
]

r1 : (a b : Text) (ws : List Text) → AllHaveChars ws → values_in ws ≡ Some (b ∷ []) → reads (state (held1 a) 2 false) ws ≡ (Some a, Some b)
unfolding clap_on_literals lrat_command
r1 a b [] h e = cc
r1 a b (w ∷ ws) h e = elim (classify w h.0) [
  | plain p v ↦ (let (us, left, is) = left_more 0 w (values_in ws) (b ∷ []) (sym (plain_is w ws p v) ∙ e) refl in
      let none : us ≡ [] = cc in
      let same : w ≡ b = cc in
      step_reads (state (held1 a) 2 false) (state (held2 a w) 3 false) w ws (value1 a w p).1 ∙ (r2 a w ws h.1 (left.0 ∙ ap Some none) ∙ ap (λ (t : Text). (Some a, Some t)) same))
  | dashes d ↦ (let one : ws ≡ b ∷ [] = let both = dashes_is w ws d in cc in
      step_reads (state (held1 a) 2 false) (state (held1 a) 2 true) w ws (dashes_at (held1 a) 2 w d).1 ∙ rt1 a ws b one)
  | refusal d v r ↦ (let bad = refused_is w ws d v in cc)
]

r0 : (a b : Text) (ws : List Text) → AllHaveChars ws → values_in ws ≡ Some (a ∷ b ∷ []) → reads (state (hold [] None) 1 false) ws ≡ (Some a, Some b)
unfolding clap_on_literals lrat_command
r0 a b [] h e = cc
r0 a b (w ∷ ws) h e = elim (classify w h.0) [
  | plain p v ↦ (let (us, left, is) = left_more 1 w (values_in ws) (a ∷ b ∷ []) (sym (plain_is w ws p v) ∙ e) refl in
      let one : us ≡ b ∷ [] = cc in
      let same : w ≡ a = cc in
      step_reads (state (hold [] None) 1 false) (state (held1 w) 2 false) w ws (value0 w p).1 ∙ (r1 w b ws h.1 (left.0 ∙ ap Some one) ∙ ap (λ (t : Text). (Some t, Some b)) same))
  | dashes d ↦ (let both_are : ws ≡ a ∷ b ∷ [] = let both = dashes_is w ws d in cc in
      step_reads (state (hold [] None) 1 false) (state (hold [] None) 1 true) w ws (dashes_at (hold [] None) 1 w d).1 ∙ rt0 ws a b both_are)
  | refusal d v r ↦ (let bad = refused_is w ws d v in cc)
]

-- the values that clap finds are those of the grammar
pub lrat_reads : (ws : List Text) → AllHaveChars ws → (a b : Text) → values_in ws ≡ Some (a ∷ b ∷ [])
    → (first_of (codes "CNF") (matches_of lrat_command ws) ≡ Some a) × (first_of (codes "PROOF") (matches_of lrat_command ws) ≡ Some b)
unfolding lrat_command
lrat_reads ws h a b e =
    let both = r0 a b ws h e in
    (ap (λ (t : Two). t.0) both, ap (λ (t : Two). t.1) both)

-- where there are two values they can be named
pub two_of : (o : Option (List Text)) → has_values 2 o ≡ true → (a : Text) × (b : Text) × (o ≡ Some (a ∷ b ∷ []))
two_of None h = cc
two_of (Some []) h = cc
two_of (Some (a ∷ [])) h = cc
two_of (Some (a ∷ b ∷ [])) h = (a, b, refl)
two_of (Some (a ∷ b ∷ c ∷ cs)) h = cc
