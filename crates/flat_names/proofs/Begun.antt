-- Where counted items begin, and in which of them a number lies.
use Rattle.std.proofs.Common.{◌≡◌, ◌∙◌, ◌+◌, ◌-◌, ◌<◌, ◌≤◌, ℕ, min, List, [], ◌∷◌, ◌++◌, take, length, sum_by, get_or, Some, inl, inr, sym, ap, subst, arith, length-append}
use Rattle.std.specs.Prelude.{slice_get}
use Rattle.std.proofs.lemmas.Bool.{cases_lt}
use Rattle.std.proofs.lemmas.List.{get_or_append_left, get_or_default}
use Rattle.std.proofs.lemmas.List.Sums.{sum_by_more}
use Rattle.std.proofs.lemmas.Option.{slice_get_within, get_or_from_slice_get}
use Rattle.std.proofs.Math.Seq.{get_or-append_seam}
use Rattle.bind_forms.specs.declared.bound.BoundModule.{BoundModule}
use Rattle.flat_places.specs.declared.size.Size.{Size}
use Rattle.flat_names.specs.declared.begins.Begins.{Begins}
use Rattle.flat_names.specs.Begins.{AreBegins, IsBegun, AreBegun}

-- what the items up to the next one come to
pub next_begin : {X : Type 0} (count : X → ℕ) (items : List X) (i : ℕ) (x : X) (now next : ℕ) → i < length items → x ≡ get_or items i x → now ≡ min (sum_by count (take i items)) 2000001 → next ≡ min (now + count x) 2000001 → next ≡ min (sum_by count (take (i + 1) items)) 2000001
next_begin count items i x now next low is so_far e =
    let more = sum_by_more count items i x low in
    let same = ap count is in
    omega (arith, so_far, e, more, same)

-- the begin of the next item was added
pub begin_more : {X : Type 0} (count : X → ℕ) (items : List X) (begins : List ℕ) (i next : ℕ) → length begins ≡ i + 1 → next ≡ min (sum_by count (take (i + 1) items)) 2000001 →
    ((k : ℕ) → k < length begins → get_or begins k 0 ≡ min (sum_by count (take k items)) 2000001) → (k : ℕ) → k < length (begins ++ next ∷ []) → get_or (begins ++ next ∷ []) k 0 ≡ min (sum_by count (take k items)) 2000001
begin_more count items begins i next counted is each k low = elim (cases_lt k (length begins)) [
  | inl before ↦ get_or_append_left begins (next ∷ []) 0 k before ∙ each k before
  | inr past ↦ (
      let all = length-append begins (next ∷ []) in
      let last : k ≡ length begins = omega (arith, low, all, past) in
      let here : length begins ≡ i + 1 = counted in
      ap (λ (n : ℕ). get_or (begins ++ next ∷ []) n 0) last ∙ get_or-append_seam begins next [] 0 ∙ is ∙ ap (λ (n : ℕ). min (sum_by count (take n items)) 2000001) (sym (last ∙ here))
      )
]

-- the begins of one more module were added
pub begun_more : (sizes : List Size) (modules : List BoundModule) (begins : List Begins) (i : ℕ) (owner : BoundModule) (begin : Begins) → length begins ≡ i → owner ≡ get_or modules i owner → i < length modules → IsBegun sizes owner begin →
    ((at : ℕ) (o : BoundModule) (b : Begins) → at < i → IsBegun sizes (get_or modules at o) (get_or begins at b)) → (at : ℕ) (o : BoundModule) (b : Begins) → at < i + 1 → IsBegun sizes (get_or modules at o) (get_or (begins ++ begin ∷ []) at b)
begun_more sizes modules begins i owner begin counted is inside here each at o b low = elim (cases_lt at (length begins)) [
  | inl before ↦ subst (IsBegun sizes (get_or modules at o)) (sym (get_or_append_left begins (begin ∷ []) b at before)) (each at o b (omega (arith, before, counted)))
  | inr past ↦ (
      let last : at ≡ length begins = omega (arith, low, counted, past) in
      let got : get_or (begins ++ begin ∷ []) at b ≡ begin = ap (λ (n : ℕ). get_or (begins ++ begin ∷ []) n b) last ∙ get_or-append_seam begins begin [] b in
      let module_is : owner ≡ get_or modules at o = is ∙ ap (λ (n : ℕ). get_or modules n owner) (sym (last ∙ counted)) ∙ get_or_default modules at owner o (omega (arith, inside, last, counted)) in
      subst (IsBegun sizes (get_or modules at o)) (sym got) (subst (λ (m : BoundModule). IsBegun sizes m begin) module_is here)
      )
]

-- ---- where a number lies

-- the number is behind the items before one, by less than that one comes to
pub record LiesIn {X : Type 0} (count : X → ℕ) (items : List X) (begins : List ℕ) (number at : ℕ) (x : X) : Type 0 where
  pub numbered : number ≡ sum_by count (take at items) + (number - get_or begins at 0)
  pub within : number - get_or begins at 0 < count x

pub lies_in : {X : Type 0} (count : X → ℕ) (items : List X) (begins : List ℕ) (number at : ℕ) (x : X) → AreBegins count items begins → number ≤ 2000000 → slice_get items at ≡ Some x → get_or begins at 0 ≤ number → (at + 1 < length begins → number < get_or begins (at + 1) 0) →
    LiesIn count items begins number at x
lies_in count items begins number at x b small there low high =
    let inside = slice_get_within items at x there in
    let counted = b.counted in
    let begin = b.each at (omega (arith, inside, counted)) in
    let next = b.each (at + 1) (omega (arith, inside, counted)) in
    let above = high (omega (arith, inside, counted)) in
    let more = sum_by_more count items at x inside in
    let same = ap count (get_or_from_slice_get items at x x there) in
    record {
      numbered = omega (arith, begin, low, small);
      within = omega (arith, begin, next, above, more, same, low, small);
    }

-- ---- modules

pub begun_at : (sizes : List Size) (modules : List BoundModule) (begins : List Begins) (at : ℕ) (owner : BoundModule) (begin : Begins) → AreBegun sizes modules begins → at < length modules → owner ≡ get_or modules at owner → begin ≡ get_or begins at begin → IsBegun sizes owner begin
begun_at sizes modules begins at owner begin b low module_is begin_is =
    subst (λ (m : BoundModule). IsBegun sizes m begin) (sym module_is) (subst (IsBegun sizes (get_or modules at owner)) (sym begin_is) (b.each at owner begin low))
