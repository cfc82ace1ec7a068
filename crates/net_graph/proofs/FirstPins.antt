-- The tables of where pins and nets begin.
use Rattle.std.proofs.Common.{◌≡◌, ◌∙◌, ◌<◌, ◌+◌, inl, inr, ℕ, List, [], ◌∷◌, ◌++◌, length, sym, ap, subst, arith, get_or, length-append}
use Rattle.std.proofs.lemmas.Bool.{cases_eq}
use Rattle.std.proofs.Math.ListN.{get_or-append}
use Rattle.std.proofs.Math.Seq.{get_or-append_seam}
use Rattle.rsfq_ids.specs.declared.table.CellTable.{CellTable}
use Rattle.rsfq_ids.specs.declared.circuit.Flat.{Flat}
use Rattle.rsfq_ids.specs.WellFormed.{reading_pins, output_pins}
use Rattle.net_graph.specs.Wiring.{counted, first_output, pins_of_port, AreStarts, ArePortPins}

each_more : (f : ℕ → ℕ) (k : ℕ) (xs : List ℕ) (x : ℕ) → length xs ≡ k → x ≡ f k → ((i : ℕ) → i < k → get_or xs i 0 ≡ f i) → (i : ℕ) → i < k + 1 → get_or (xs ++ x ∷ []) i 0 ≡ f i
each_more f k xs x len is each i l = elim (cases_eq i k) [
  | inl e ↦ (let at : get_or (xs ++ x ∷ []) (length xs) 0 ≡ x = get_or-append_seam xs x [] 0 in let place : length xs ≡ i = len ∙ sym e in subst (λ (n : ℕ). get_or (xs ++ x ∷ []) n 0 ≡ x) place at ∙ is ∙ ap f (sym e))
  | inr ne ↦ get_or-append xs (x ∷ []) 0 i (omega (arith, len)) ∙ each i (omega arith)
]

pub starts_more : (table : CellTable) (flat : Flat) (k : ℕ) (pins nets more_pins more_nets : List ℕ) (pin net : ℕ) → AreStarts table flat k pins nets → more_pins ≡ pins ++ pin ∷ [] → more_nets ≡ nets ++ net ∷ []
    → pin ≡ counted (reading_pins table) flat.cells k → net ≡ first_output flat + counted (output_pins table) flat.cells k → AreStarts table flat (k + 1) more_pins more_nets
starts_more table flat k pins nets more_pins more_nets pin net s p n pin_is net_is =
    subst (λ (xs : List ℕ). AreStarts table flat (k + 1) xs more_nets) (sym p) (subst (λ (ys : List ℕ). AreStarts table flat (k + 1) (pins ++ pin ∷ []) ys) (sym n) (record {
      pin_count = length-append pins (pin ∷ []) ∙ ap (λ (m : ℕ). m + 1) s.pin_count;
      net_count = length-append nets (net ∷ []) ∙ ap (λ (m : ℕ). m + 1) s.net_count;
      pin_starts = each_more (λ (i : ℕ). counted (reading_pins table) flat.cells i) k pins pin s.pin_count pin_is s.pin_starts;
      net_starts = each_more (λ (i : ℕ). first_output flat + counted (output_pins table) flat.cells i) k nets net s.net_count net_is s.net_starts;
    }))

pub port_pins_more : (flat : Flat) (first k : ℕ) (ports more : List ℕ) (pin : ℕ) → ArePortPins flat first k ports → more ≡ ports ++ pin ∷ [] → pin ≡ first + counted pins_of_port flat.ports k → ArePortPins flat first (k + 1) more
port_pins_more flat first k ports more pin s p is =
    subst (ArePortPins flat first (k + 1)) (sym p) (record {
      port_count = length-append ports (pin ∷ []) ∙ ap (λ (m : ℕ). m + 1) s.port_count;
      port_starts = each_more (λ (i : ℕ). first + counted pins_of_port flat.ports i) k ports pin s.port_count is s.port_starts;
    })
