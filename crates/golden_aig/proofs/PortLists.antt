-- The places of the items of a list that pass a test: in order, each once.
use Rattle.std.proofs.Common.{◌≡◌, ℕ, ◌+◌, ◌<◌, ◌≤◌, Bool, true, false, cond, refl, ◌∙◌, ap, arith, zero-add, List, [], ◌∷◌, ◌++◌, length, take, get_or}
use Rattle.std.specs.List.{All}
use Rattle.std.proofs.lemmas.List.{take_more, append-nil, length-take-le}
use Rattle.std.proofs.Math.Seq.{take-length}
use Rattle.std.proofs.lemmas.List.Elements.{All-cons, All-nil, All-weaker}
use Rattle.golden_aig.specs.Matched.{places_from}

pub places-push : {A : Type 0} (test : A → Bool) (first : ℕ) (xs : List A) (x : A)
    → places_from test first (xs ++ x ∷ []) ≡ places_from test first xs ++ cond (test x) ((first + length xs) ∷ []) []
places-push test first [] x = go (test x) where
  go : (b : Bool) → cond b (first ∷ []) [] ≡ cond b ((first + 0) ∷ []) []
  go true = ap (λ n. n ∷ []) (omega arith)
  go false = refl
places-push test first (y ∷ ys) x = go (test y) (places-push test (first + 1) ys x) where
  same : (first + 1) + length ys ≡ first + length (y ∷ ys)
  same = omega arith

  go : (b : Bool) → places_from test (first + 1) (ys ++ x ∷ []) ≡ places_from test (first + 1) ys ++ cond (test x) ((first + 1 + length ys) ∷ []) []
      → cond b (first ∷ places_from test (first + 1) (ys ++ x ∷ [])) (places_from test (first + 1) (ys ++ x ∷ []))
      ≡ cond b (first ∷ places_from test (first + 1) ys) (places_from test (first + 1) ys) ++ cond (test x) ((first + length (y ∷ ys)) ∷ []) []
  go true e = ap (λ r. first ∷ r) (e ∙ ap (λ n. places_from test (first + 1) ys ++ cond (test x) (n ∷ []) []) same)
  go false e = e ∙ ap (λ n. places_from test (first + 1) ys ++ cond (test x) (n ∷ []) []) same

-- a loop's step where the item passes, and where not
pub places_more : {A : Type 0} (test : A → Bool) (xs : List A) (i : ℕ) (d : A) → i < length xs → test (get_or xs i d) ≡ true
    → places_from test 0 (take (i + 1) xs) ≡ places_from test 0 (take i xs) ++ i ∷ []
places_more test xs i d lt is =
    let len : length (take i xs) ≡ i = length-take-le i xs (omega arith) in
    ap (places_from test 0) (take_more xs i d lt) ∙ (places-push test 0 (take i xs) (get_or xs i d) ∙ rw (is, len, zero-add i) refl)

pub places_kept : {A : Type 0} (test : A → Bool) (xs : List A) (i : ℕ) (d : A) → i < length xs → test (get_or xs i d) ≡ false
    → places_from test 0 (take (i + 1) xs) ≡ places_from test 0 (take i xs)
places_kept test xs i d lt is = ap (places_from test 0) (take_more xs i d lt) ∙ (places-push test 0 (take i xs) (get_or xs i d) ∙ rw is (append-nil _))

-- every place is from the first on, and in the list
pub places_inside : {A : Type 0} (test : A → Bool) (first : ℕ) (xs : List A) → All (λ n. n < first + length xs) (places_from test first xs)
places_inside test first [] = All-nil (λ n. n < first + 0)
places_inside test first (x ∷ xs) = go (test x) (All-weaker (λ n. n < first + 1 + length xs) (λ n. n < first + length (x ∷ xs)) (λ n lt. omega arith) (places_from test (first + 1) xs) (places_inside test (first + 1) xs)) where
  go : (b : Bool) → All (λ n. n < first + length (x ∷ xs)) (places_from test (first + 1) xs) → All (λ n. n < first + length (x ∷ xs)) (cond b (first ∷ places_from test (first + 1) xs) (places_from test (first + 1) xs))
  go true more = All-cons (λ n. n < first + length (x ∷ xs)) first _ (omega arith) more
  go false more = more

-- a list all the way
pub take_all_at : {A : Type 0} (xs : List A) (n : ℕ) → n ≤ length xs → length xs ≤ n → take n xs ≡ xs
take_all_at xs n le ge =
    let e : n ≡ length xs = omega arith in
    rw e (take-length xs)
