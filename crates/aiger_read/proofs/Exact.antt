-- Files that break are faulty there.
use Rattle.std.proofs.Common.{◌≡◌, ◌≢◌, ◌⊎◌, ◌∙◌, inl, inr, ◌-◌, ℕ, Bool, true, false, refl, ap, sym, List, length, Result, Ok}
use Rattle.golden_aig.specs.declared.graph.Aig.{Aig}
use Rattle.aiger_parts.specs.declared.fault.AigerWhy.{AigerWhy}
use Rattle.aiger_parts.specs.declared.fault.AigerWhy.TheVariants as why
use Rattle.aiger_parts.specs.declared.fault.Stop.{Stop}
use Rattle.aiger_parts.specs.declared.header.Form.TheVariants as form
use Rattle.aiger_read.specs.declared.text.Text.{Text}
use Rattle.aiger_read.proofs.WellFormed.{same_value}
use Rattle.aiger_read.proofs.Both.{none_in_lines, none_in_bytes}
use Rattle.aiger_read.proofs.BrokenLines.{same_stop, no_stop}
use Rattle.aiger_read.specs.Graph.{graph_at}
use Rattle.aiger_read.specs.Text.{text_at, IsRingFault}
use Rattle.aiger_read.specs.Both.{is_ascii, IsFileFault, SpellsNone}
use Rattle.aiger_read.specs.Spelled.{Spelled}
use Rattle.aiger_read.specs.Broken.{BreaksAscii, Breaks, BreaksAreFaults, IsSameCause, BreakOnce, SpelledBreakNowhere}
use Rattle.aiger_read.proofs.Causes.{no_memory}
use Rattle.aiger_read.proofs.StopLines.{StopsAt}
use Rattle.aiger_read.proofs.StopHead.{head_stops}
use Rattle.aiger_read.proofs.StopBinary.{graph_stops}
use Rattle.aiger_read.proofs.StopAscii.{head_line_stops, inputs_stop, output_lines_stop, and_lines_stop, names_stop}
use Rattle.aiger_read.proofs.StopUses.{output_use_stops, operand_stops, ring_read}

-- a reader of an ASCII file stops there, or the text is read and has a ring
abbrev LinesFault : List ℕ → ℕ → AigerWhy → Type 0
LinesFault bytes offset cause = StopsAt (text_at bytes) bytes offset cause ⊎ ((text : Text) × (text_at bytes ≡ Ok text) × IsRingFault (length bytes) text (record { offset = offset; why = cause }))

lines_fault : (bytes : List ℕ) (offset : ℕ) (cause : AigerWhy) → BreaksAscii bytes offset cause → LinesFault bytes offset cause
lines_fault bytes offset cause (inl b) = inl (head_line_stops bytes offset cause (head_stops form.Ascii bytes offset cause b))
lines_fault bytes offset cause (inr (inl b)) = inl (inputs_stop bytes offset cause b)
lines_fault bytes offset cause (inr (inr (inl b))) = inl (output_lines_stop bytes offset cause b)
lines_fault bytes offset cause (inr (inr (inr (inl b)))) = inl (and_lines_stop bytes offset cause b)
lines_fault bytes offset cause (inr (inr (inr (inr (inl b))))) = inl (names_stop bytes offset cause b)
lines_fault bytes offset cause (inr (inr (inr (inr (inr (inl b)))))) = inl (output_use_stops bytes offset cause b)
lines_fault bytes offset cause (inr (inr (inr (inr (inr (inr (inl b))))))) = inl (operand_stops bytes offset cause b)
lines_fault bytes offset cause (inr (inr (inr (inr (inr (inr (inr b))))))) = inr (ring_read bytes offset cause b)

fault_of : (bytes : List ℕ) (offset : ℕ) (cause : AigerWhy) → Breaks bytes offset cause → IsFileFault bytes (record { offset = offset; why = cause })
fault_of bytes offset cause b = (λ same. inr (lines_fault bytes offset cause (b.0 same)), λ other. inr (graph_stops bytes offset cause (b.1 other)))

pub exact : BreaksAreFaults
exact bytes offset cause b = (no_memory bytes offset cause b, fault_of bytes offset cause b)

-- ---- one place

one_stop : {A : Type 0} (r : Result A Stop) (bytes : List ℕ) (here there : ℕ) (cause other : AigerWhy) → StopsAt r bytes here cause → StopsAt r bytes there other → (here ≡ there) × IsSameCause cause other
one_stop {A} r bytes here there cause other (s, s_is, s_cause, s_place) (t, t_is, t_cause, t_place) =
    let same : s ≡ t = same_stop {A = A} s t (sym s_is ∙ t_is) in
    (s_place ∙ ap (λ (x : Stop). length bytes - x.left) same ∙ sym t_place, inl (s_cause ∙ ap (λ (x : Stop). x.why) same ∙ sym t_cause))

one_fault : (bytes : List ℕ) (here there : ℕ) (cause other : AigerWhy) → LinesFault bytes here cause → LinesFault bytes there other → (here ≡ there) × IsSameCause cause other
one_fault bytes here there cause other (inl s) (inl t) = one_stop (text_at bytes) bytes here there cause other s t
one_fault bytes here there cause other (inl (s, s_is, s_cause, s_place)) (inr (text, read, ring)) = absurd (no_stop text s (sym read ∙ s_is))
one_fault bytes here there cause other (inr (text, read, ring)) (inl (t, t_is, t_cause, t_place)) = absurd (no_stop text t (sym read ∙ t_is))
one_fault bytes here there cause other (inr (text, read, ring)) (inr (text', read', ring')) =
    let same : text ≡ text' = same_value text text' (sym read ∙ read') in
    (ring.offset ∙ ap (λ (x : Text). length bytes - x.left) same ∙ sym ring'.offset, inr (ring.ring, ring'.ring, ring.why, ring'.why))

pub once : BreakOnce
once bytes here there cause other b c = go (is_ascii bytes) refl where
  go : (t : Bool) → is_ascii bytes ≡ t → (here ≡ there) × IsSameCause cause other
  go true is = one_fault bytes here there cause other (lines_fault bytes here cause (b.0 is)) (lines_fault bytes there other (c.0 is))
  go false is = one_stop (graph_at bytes) bytes here there cause other (graph_stops bytes here cause (b.1 is)) (graph_stops bytes there other (c.1 is))

-- ---- no place

none_spelled : (bytes : List ℕ) (aig : Aig) (offset : ℕ) (cause : AigerWhy) → Spelled bytes aig → cause ≢ why.Memory → SpellsNone bytes (record { offset = offset; why = cause }) → ⊥
none_spelled bytes aig offset cause spelled other (inl memory) = other memory
none_spelled bytes aig offset cause spelled other (inr none) = none aig spelled

pub nowhere : SpelledBreakNowhere
nowhere bytes aig offset cause spelled b = none_spelled bytes aig offset cause spelled (no_memory bytes offset cause b) (go (is_ascii bytes) refl) where
  go : (t : Bool) → is_ascii bytes ≡ t → SpellsNone bytes (record { offset = offset; why = cause })
  go true is = none_in_lines bytes (record { offset = offset; why = cause }) is (inr (lines_fault bytes offset cause (b.0 is)))
  go false is = none_in_bytes bytes (record { offset = offset; why = cause }) is (inr (graph_stops bytes offset cause (b.1 is)))
