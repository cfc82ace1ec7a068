-- The pins of a well-formed circuit stand in the order of their readers.
use Rattle.std.proofs.Common.{◌≡◌, ℕ, zero, suc, ◌+◌, ◌<◌, ◌≤◌, ◌≢◌, List, [], ◌∷◌, length, sym, ap, ◌∙◌, subst, arith, inl, inr}
use Rattle.std.proofs.lemmas.Option.{get_or_from_slice_get, slice_get_within}
use Rattle.std.proofs.lemmas.List.Elements.{All-get_or}
use Rattle.std.specs.Prelude.{slice_get, Option, Some, None, option_to_list}
use Rattle.std.proofs.lemmas.Bool.{cases_lt}
use Rattle.std.specs.Option.{option_and_then}
use Rattle.rsfq_ids.specs.Circuit.{IsPin, Reads}
use Rattle.rsfq_ids.specs.declared.table.CellRow.{CellRow}
use Rattle.rsfq_ids.specs.declared.table.Kind.{Kind}
use Rattle.rsfq_ids.specs.declared.table.Kind.TheVariants as kind
use Rattle.std.specs.List.{All}
use Rattle.rsfq_ids.specs.declared.circuit.FlatCell.{FlatCell}
use Rattle.rsfq_ids.specs.declared.circuit.Flat.{Flat}
use Rattle.rsfq_ids.specs.declared.circuit.Pin.{Pin}
use Rattle.rsfq_ids.specs.declared.circuit.Reader.{Reader}
use Rattle.rsfq_ids.specs.declared.circuit.Reader.TheVariants as reader
use Rattle.rsfq_ids.specs.declared.table.CellTable.{CellTable}
use Rattle.rsfq_ids.specs.WellFormed.{IsTable, IsRow, FitsKind}
use Rattle.net_graph.specs.Graph.{StandsBefore, AreInOrder, IsRowIn, IsWired}
use Rattle.offence_check.specs.Check.{HasFewPins}

-- no reader comes before another both ways, nor before itself
pub one_way : (r s : Reader) → StandsBefore r s → StandsBefore s r → ⊥
one_way (reader.Pin cell pin) (reader.Pin other spot) one two = elim one [
  | inl l ↦ elim two [ inl l' ↦ absurd (omega arith) | inr (e, l') ↦ absurd (omega arith) ]
  | inr (e, l) ↦ elim two [ inl l' ↦ absurd (omega arith) | inr (e', l') ↦ absurd (omega arith) ]
]
one_way (reader.Pin cell pin) (reader.Port port) one two = two
one_way (reader.Port port) (reader.Pin cell pin) one two = one
one_way (reader.Port port) (reader.Port other) one two = absurd (omega arith)

module _ (flat : Flat) (order : AreInOrder flat) (place : ℕ) (pin : Pin) (here : slice_get flat.pins place ≡ Some pin) (r : Reader) where
  same_reader : (k net : ℕ) → IsPin flat k r net → k ≡ place → pin.reader ≡ r
  same_reader k net is e =
      let both : Some pin ≡ Some (record { reader = r; net = net }) = sym here ∙ ap (λ (j : ℕ). slice_get flat.pins j) (sym e) ∙ is in
      let one : pin ≡ record { reader = r; net = net } = cc in ap (λ (p : Pin). p.reader) one

  -- a reader that comes behind a pin stands behind it
  pub stands_behind : StandsBefore pin.reader r → (k net : ℕ) → IsPin flat k r net → place < k
  stands_behind before k net is = elim (cases_lt place k) [
    | inl l ↦ l
    | inr l ↦ elim (cases_lt k place) [
      | inl less ↦ absurd (one_way pin.reader r before (order k place _ pin less is here))
      | inr same ↦ absurd (one_way pin.reader r before (subst (λ (x : Reader). StandsBefore x pin.reader) (same_reader k net is (omega arith)) (subst (λ (x : Reader). StandsBefore pin.reader x) (sym (same_reader k net is (omega arith))) before)))
    ]
  ]

  -- and another one before it
  pub stands_ahead : pin.reader ≢ r → ¬ StandsBefore pin.reader r → (k net : ℕ) → IsPin flat k r net → k < place
  stands_ahead other late k net is = elim (cases_lt k place) [
    | inl l ↦ l
    | inr l ↦ elim (cases_lt place k) [
      | inl more ↦ absurd (late (order place k pin _ more here is))
      | inr same ↦ absurd (other (same_reader k net is (omega arith)))
    ]
  ]

-- where no pin is, the circuit has ended
pub none_past : (pins : List Pin) (k : ℕ) → slice_get pins k ≡ None → length pins ≤ k
none_past [] k none = omega arith
none_past (pin ∷ pins) zero none = cc
none_past (pin ∷ pins) (suc k) none = let past = none_past pins k none in omega arith

-- a reader reads one net
pub one_read : (flat : Flat) → AreInOrder flat → (r : Reader) (n m : ℕ) → Reads flat r n → Reads flat r m → n ≡ m
one_read flat order r n m (i, is) (j, js) = elim (cases_lt i j) [
  | inl less ↦ absurd (one_way r r (order i j _ _ less is js) (order i j _ _ less is js))
  | inr most ↦ elim (cases_lt j i) [
    | inl less ↦ absurd (one_way r r (order j i _ _ less js is) (order j i _ _ less js is))
    | inr same ↦
        (let e : i ≡ j = omega arith in
        let pin_of : ℕ → Pin = λ k. record { reader = r; net = k } in
        let both : Some (pin_of n) ≡ Some (pin_of m) = sym is ∙ ap (λ (k : ℕ). slice_get flat.pins k) e ∙ js in
        let one : pin_of n ≡ pin_of m = cc in ap (λ (p : Pin). p.net) one)
  ]
]

all_at : {X : Type 0} (P : X → Type 0) (xs : List X) (i : ℕ) (x : X) → slice_get xs i ≡ Some x → All P xs → P x
all_at P xs i x is all = subst P (get_or_from_slice_get xs i x x is) (All-get_or P xs i x (slice_get_within xs i x is) all)

few_of : (k : Kind) (row : CellRow) → FitsKind k row → length row.inputs + length (option_to_list row.clock) ≤ 4
few_of kind.Jtl row fit = let n = ap (λ (o : Option (List ℕ)). length (option_to_list o)) fit.1 in let m = fit.0 in omega arith
few_of kind.Split row fit = let n = ap (λ (o : Option (List ℕ)). length (option_to_list o)) fit.1 in let m = fit.0 in omega arith
few_of kind.Merge row fit = let n = ap (λ (o : Option (List ℕ)). length (option_to_list o)) fit.1 in let m = fit.0 in omega arith
few_of kind.Gate row fit = let n = fit.2 in let m = fit.1 in omega arith

row_fits : (table : CellTable) (flat : Flat) → IsTable table → (cell : ℕ) (row : CellRow) → IsRowIn table flat cell row → IsRow row
row_fits table flat fit cell row of = go (slice_get flat.cells cell) of
  where
    go : (found : Option FlatCell) → option_and_then (λ (c : FlatCell). slice_get table.rows c.row) found ≡ Some row → IsRow row
    go None e = cc
    go (Some c) e = all_at IsRow table.rows c.row row e fit.rows

pub few_pins : (table : CellTable) (flat : Flat) → IsTable table → IsWired table flat → HasFewPins flat
few_pins table flat fit wired place cell at net is =
    let has = (wired.pins cell at).1 (net, (place, is)) in
    let few = few_of has.0.kind has.0 (row_fits table flat fit cell has.0 has.1).kind in
    let l = has.2 in omega arith
