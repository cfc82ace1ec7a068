use Rattle.std.proofs.Common.{◌≡◌, ◌∙◌, ◌∷◌, [], Some, None, sym, subst, map, List, Option, ℤ, w64, to_z, of_z}
use Rattle.rsfq_ids.specs.WellFormed.{IsBench}
use Rattle.rsfq_ids.specs.declared.circuit.PortBit.{PortBit}
use Rattle.rsfq_ids.specs.declared.circuit.PortUse.{PortUse}
use Rattle.env_table.specs.declared.uses.ClockBit.{ClockBit}
use Rattle.env_table.specs.Binding.{strobe_fault}
use Rattle.env_table.specs.Bound.{AreSound}
use Rattle.env_table.proofs.SoundFacts.{is_time, sound_bench, time_kept}
use Rattle.env_table.proofs.bind.bind_env.Goals as goal

pub returns-clause-well_formed : goal.returns-clause-well_formed
returns-clause-well_formed c =
    let clock : ClockBit = c.in_ok-clock.clock in
    let found : List (Option PortUse) = c.in_ok-bound.bound.uses.items in
    let clocks : c.in_ok-bound.bound.clocks.items ≡ clock ∷ [] = sym c.deref.ensures.value ∙ c.in_ok-clock.ensures.clock in
    let uses : map (λ (used : PortUse). Some used) c.in_ok-uses.uses ≡ found = c.in_ok-uses.ensures.uses ∙ c.deref-2.ensures.value in
    let sound : AreSound c.args.flat.now.ports found (record { port = clock.port; jitter = clock.jitter } ∷ []) =
    subst (λ (ports : List PortBit). AreSound ports found (clock ∷ [])) c.as_slice-ports.ensures.value
    (subst (λ (clocks : List ClockBit). AreSound c.as_slice-ports.result.now found clocks) clocks c.in_ok-bound.ensures.sound) in
    let within : strobe_fault c.args.env.now.period c.args.flat.now.ports found ≡ None =
    subst (λ (ports : List PortBit). strobe_fault c.args.env.now.period ports found ≡ None) c.as_slice-ports.ensures.value
    (subst (λ (uses : List (Option PortUse)). strobe_fault c.args.env.now.period c.as_slice-ports.result.now uses ≡ None) c.deref-3.ensures.value c.in_ok-check_strobes.ensures.passed) in
    let fits : IsBench c.args.flat.now (record { period = c.args.env.now.period; jitter = clock.jitter; clock = clock.port; uses = c.in_ok-uses.uses }) =
    sound_bench c.args.flat.now (record { period = c.args.env.now.period; jitter = clock.jitter; clock = clock.port; uses = c.in_ok-uses.uses }) found c.requires.period uses sound within in
    let period = time_kept c.args.env.now.period (is_time c.args.env.now.period c.requires.period) in
    let jitter = time_kept clock.jitter fits.jitter in
    subst (λ (period : ℤ). IsBench c.args.flat.now (record { period = period; jitter = to_z w64 (of_z w64 clock.jitter); clock = clock.port; uses = c.in_ok-uses.uses })) (sym period)
    (subst (λ (jitter : ℤ). IsBench c.args.flat.now (record { period = c.args.env.now.period; jitter = jitter; clock = clock.port; uses = c.in_ok-uses.uses })) (sym jitter) fits)
