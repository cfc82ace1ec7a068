-- The readers of nets, pin by pin.
use Rattle.std.proofs.Common.{◌≡◌, ◌≢◌, ◌∙◌, ◌<◌, ◌+◌, ◌⊎◌, inl, inr, ℕ, zero, suc, true, false, List, [], ◌∷◌, length, Option, Some, None, refl, sym, ap, subst, arith, get_or, set, replicate, length-set}
use Rattle.std.specs.Prelude.{slice_get}
use Rattle.std.specs.Option.{is_some}
use Rattle.std.proofs.lemmas.List.{get_or-set_other, get_or-set_same, length-replicate}
use Rattle.std.proofs.lemmas.Option.{slice_get_within}
use Rattle.std.proofs.lemmas.Bool.Decides.{eqb_tells}
use Rattle.rsfq_ids.specs.declared.circuit.Pin.{Pin}
use Rattle.rsfq_ids.specs.declared.circuit.Flat.{Flat}
use Rattle.rsfq_ids.specs.declared.circuit.Reader.{Reader}
use Rattle.rsfq_ids.specs.Circuit.{IsPin}
use Rattle.rsfq_ids.specs.WellFormed.{IsFlat}
use Rattle.flat_form.specs.Table.{jtl_table}
use Rattle.flat_form.specs.Form.{HasOneReaderEach}
use Rattle.flat_form.specs.Walking.{AreReaders}
use Rattle.flat_form.proofs.Lists.{some_same}
use Rattle.flat_form.proofs.Circuits.{pin_within}

-- an item does not depend on the default
pub same_default : {X : Type 0} (xs : List X) (k : ℕ) (d e : X) → k < length xs → get_or xs k d ≡ get_or xs k e
same_default [] k d e l = absurd (omega arith)
same_default (x ∷ xs) zero d e l = refl
same_default (x ∷ xs) (suc k) d e l = same_default xs k d e (omega arith)

no_reader : (n net : ℕ) (by : Reader) → get_or (replicate n None) net None ≡ Some by → ⊥
no_reader zero net by e = absurd cc
no_reader (suc n) zero by e = absurd cc
no_reader (suc n) (suc net) by e = no_reader n net by e

pub none_yet : (flat : Flat) (readers : List (Option Reader)) → readers ≡ replicate (length flat.nets) None → AreReaders flat 0 readers
none_yet flat readers e = subst (AreReaders flat 0) (sym e) (record {
  nets = length-replicate (length flat.nets) None;
  found = λ net by f. absurd (no_reader (length flat.nets) net by f);
  kept = λ pin net by l is. absurd (omega arith);
  one = λ net first second by other l m is also. absurd (omega arith);
})

some_reader : (found : Option Reader) → is_some found ≡ true → (by : Reader) × (found ≡ Some by)
some_reader None e = absurd cc
some_reader (Some by) e = (by, refl)

none_reader : (found : Option Reader) → is_some found ≡ false → found ≡ None
none_reader None e = refl
none_reader (Some by) e = absurd cc

module _ (flat : Flat) (fits : IsFlat jtl_table flat) (count : ℕ) (pin : Pin) (at : slice_get flat.pins count ≡ Some pin) (readers : List (Option Reader)) (are : AreReaders flat count readers) (k : ℕ) (net_is : k ≡ pin.net) where
  within : pin.net < length readers
  within = let l = pin_within flat fits count pin at in let n = are.nets in omega arith

  module _ (found : Option Reader) (is : found ≡ get_or readers k found) where
    found_is : get_or readers pin.net None ≡ found
    found_is = same_default readers pin.net None found within ∙ ap (λ (i : ℕ). get_or readers i found) (sym net_is) ∙ sym is

    pub two_readers : is_some found ≡ true → ¬ HasOneReaderEach flat
    two_readers e one =
        let by = some_reader found e in
        let other = are.found pin.net by.0 (found_is ∙ by.1) in
        let same = one pin.net other.0 count by.0 pin.reader other.2 at in
        let l = other.1 in
        absurd (omega arith)

    unread : is_some found ≡ false → (other net : ℕ) (by : Reader) → other < count → IsPin flat other by net → net ≢ pin.net
    unread e other net by l is_pin same =
        let kept = are.kept other net by l is_pin in
        let none = found_is ∙ none_reader found e in
        let both : Some by ≡ None = sym kept ∙ ap (λ (i : ℕ). get_or readers i None) same ∙ none in
        absurd cc

    pub one_reader_more : is_some found ≡ false → AreReaders flat (count + 1) (set readers k (Some pin.reader))
    one_reader_more e = record {
      nets = length-set readers k (Some pin.reader) ∙ are.nets;
      found = λ net by f. found_in net by f (nat_cases net pin.net);
      kept = λ other net by l is_pin. kept_in other net by is_pin (last_or other l);
      one = λ net first second by other l m is_pin also. one_in net first second by other is_pin also (last_or first l) (last_or second m);
    }
      where
        nat_cases : (a b : ℕ) → (a ≡ b) ⊎ (a ≢ b)
        nat_cases a b = elim (eqb_tells a b) [ inl t ↦ inl t.1 | inr t ↦ inr t.1 ]

        last_or : (other : ℕ) → other < count + 1 → (other ≡ count) ⊎ (other < count)
        last_or other l = elim (eqb_tells other count) [ inl t ↦ inl t.1 | inr t ↦ let ne = t.1 in inr (omega arith) ]

        this_pin : (net : ℕ) (by : Reader) → IsPin flat count by net → (pin.reader ≡ by) × (pin.net ≡ net)
        this_pin net by is_pin = let same : pin ≡ record { reader = by; net = net } = some_same pin (record { reader = by; net = net }) (sym at ∙ is_pin) in (ap (λ (p : Pin). p.reader) same, ap (λ (p : Pin). p.net) same)

        written : get_or (set readers k (Some pin.reader)) pin.net None ≡ Some pin.reader
        written = let l = within in ap (λ (i : ℕ). get_or (set readers i (Some pin.reader)) pin.net None) net_is ∙ get_or-set_same readers pin.net (Some pin.reader) None l

        elsewhere : (net : ℕ) → net ≢ pin.net → get_or (set readers k (Some pin.reader)) net None ≡ get_or readers net None
        elsewhere net ne = get_or-set_other readers k net (Some pin.reader) None (λ same. ne (same ∙ net_is))

        found_in : (net : ℕ) (by : Reader) → get_or (set readers k (Some pin.reader)) net None ≡ Some by → (net ≡ pin.net) ⊎ (net ≢ pin.net) → (other : ℕ) × (other < count + 1) × IsPin flat other by net
        found_in net by f (inl same) =
            let is_by : pin.reader ≡ by = some_same pin.reader by (sym written ∙ ap (λ (i : ℕ). get_or (set readers k (Some pin.reader)) i None) (sym same) ∙ f) in
            (count, omega arith, at ∙ ap (λ (r : Reader). Some (record { reader = r; net = pin.net })) is_by ∙ ap (λ (n : ℕ). Some (record { reader = by; net = n })) (sym same))
        found_in net by f (inr ne) = let deep = are.found net by (sym (elsewhere net ne) ∙ f) in (deep.0, (let l = deep.1 in omega arith), deep.2)

        kept_in : (other net : ℕ) (by : Reader) → IsPin flat other by net → (other ≡ count) ⊎ (other < count) → get_or (set readers k (Some pin.reader)) net None ≡ Some by
        kept_in other net by is_pin (inl last) =
            let this = this_pin net by (subst (λ (p : ℕ). IsPin flat p by net) last is_pin) in
            ap (λ (n : ℕ). get_or (set readers k (Some pin.reader)) n None) (sym this.1) ∙ written ∙ ap (λ (r : Reader). Some r) this.0
        kept_in other net by is_pin (inr l) = elsewhere net (unread e other net by l is_pin) ∙ are.kept other net by l is_pin

        one_in : (net first second : ℕ) (by other : Reader) → IsPin flat first by net → IsPin flat second other net → (first ≡ count) ⊎ (first < count) → (second ≡ count) ⊎ (second < count) → first ≡ second
        one_in net first second by other is_pin also (inl f) (inl s) = f ∙ sym s
        one_in net first second by other is_pin also (inl f) (inr s) =
            absurd (unread e second net other s also (sym (this_pin net by (subst (λ (p : ℕ). IsPin flat p by net) f is_pin)).1))
        one_in net first second by other is_pin also (inr f) (inl s) =
            absurd (unread e first net by f is_pin (sym (this_pin net other (subst (λ (p : ℕ). IsPin flat p other net) s also)).1))
        one_in net first second by other is_pin also (inr f) (inr s) = are.one net first second by other f s is_pin also

-- with all pins: no net has two readers
pub one_each : (flat : Flat) (readers : List (Option Reader)) → AreReaders flat (length flat.pins) readers → HasOneReaderEach flat
one_each flat readers are net first second one two is_pin also = are.one net first second one two (slice_get_within flat.pins first _ is_pin) (slice_get_within flat.pins second _ also) is_pin also
