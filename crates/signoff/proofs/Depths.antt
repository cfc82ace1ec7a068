-- How deep the outputs of a design may be.
use Rattle.std.proofs.Common.{◌≡◌, ◌∙◌, sym, subst, ap, ℕ, List, arith}
use Rattle.std.specs.Prelude.{pos, Some}
use Rattle.std.proofs.lemmas.Option.{slice_get-get_or}
use Rattle.std.proofs.lemmas.List.Elements.{All-contains}
use Rattle.rsfq_ids.specs.declared.circuit.Reader.{Reader}
use Rattle.rsfq_ids.specs.declared.circuit.Reader.TheVariants as reader
use Rattle.rsfq_ids.specs.Design.{Design}
use Rattle.rsfq_ids.specs.Path.{HasDepth}
use Rattle.rsfq_ids.specs.Ready.{IsSetUp}
use Rattle.wire_timing.specs.declared.WireDepth.{WireDepth}
use Rattle.wire_timing.specs.Wires.{IsWireDepth}
use Rattle.signoff.specs.Verdict.{IsShallow, AreDepths}
use Rattle.signoff.specs.Answers.{AreShallow}
use Rattle.signoff.proofs.Signed.{line_of}

-- a depth is one number
pub one_depth : (design : Design) (to : Reader) (depth other : ℕ) → HasDepth design to (pos depth) → HasDepth design to (pos other) → depth ≡ other
one_depth design to depth other is also =
    let same : pos depth ≡ pos other = sym (is.every also.some.0 also.some.1) ∙ also.every also.some.0 also.some.1 in
    cc

-- where the depths are those of the outputs and none is above the limit, no output is too deep
pub shallow : (design : Design) (depths : List WireDepth) → IsSetUp design → AreDepths design depths → AreShallow depths → IsShallow design
shallow design depths set_up are all output depth ((strobe, used), has) =
    let (line, at, same) = line_of design depths set_up are.outputs output strobe used in
    let line_is = All-contains (IsWireDepth design) depths line are.each at in
    let most = all at.0 line at.1 (slice_get-get_or depths at.0 line at.1 ∙ ap Some at.2) in
    let depth_is : HasDepth design (reader.Port output) (pos line.depth) = subst (λ (n : ℕ). HasDepth design (reader.Port n) (pos line.depth)) same line_is.depth_is in
    let equal = one_depth design (reader.Port output) depth line.depth has depth_is in
    omega (arith, equal, most)
