-- The first fault over port bits and their uses.
use Rattle.std.proofs.Common.{◌≡◌, ◌∙◌, ℕ, zero, suc, ◌+◌, ◌<◌, ◌≤◌, Bool, true, false, sym, refl, ap, ap₂, arith, ℤ, List, [], ◌∷◌, length, map, drop, get_or, Option, Some, None, is_some}
use Rattle.std.specs.List.{zip}
use Rattle.std.proofs.lemmas.List.{drop_more}
use Rattle.std.proofs.Math.ListN.{drop_of_length-le}
use Rattle.rsfq_ids.specs.declared.circuit.PortBit.{PortBit}
use Rattle.rsfq_ids.specs.declared.circuit.PortUse.{PortUse}
use Rattle.env_table.specs.declared.fault.EnvFault.{EnvFault}
use Rattle.env_table.specs.declared.fault.EnvFault.TheVariants.{Missing, StrobeOutside}
use Rattle.env_table.specs.Binding.{first_of, is_within, missing_fault, strobe_fault, unless}

pub first_some : (stands : Option EnvFault) (why : EnvFault) (more : List (Option EnvFault)) → stands ≡ Some why → first_of (stands ∷ more) ≡ Some why
unfolding first_of
first_some stands why more is = rw is refl

pub first_none : (stands : Option EnvFault) (more : List (Option EnvFault)) → stands ≡ None → first_of (stands ∷ more) ≡ first_of more
unfolding first_of
first_none stands more is = rw is refl

-- the first fault from a place on
from_here : (f : PortBit × Option PortUse → Option EnvFault) (ports : List PortBit) (uses : List (Option PortUse)) (place : ℕ) (d : PortBit) → place < length ports → length uses ≡ length ports
    → first_of (map f (zip (drop place ports) (drop place uses))) ≡ first_of (f (get_or ports place d, get_or uses place None) ∷ map f (zip (drop (place + 1) ports) (drop (place + 1) uses)))
from_here f ports uses place d less many =
    ap₂ (λ (xs : List PortBit) (ys : List (Option PortUse)). first_of (map f (zip xs ys))) (drop_more ports place d less) (drop_more uses place None (omega arith))

at_end : (f : PortBit × Option PortUse → Option EnvFault) (ports : List PortBit) (uses : List (Option PortUse)) (place : ℕ) → length ports ≤ place
    → first_of (map f (zip (drop place ports) uses)) ≡ None
unfolding first_of
at_end f ports uses place past = rw (drop_of_length-le ports past) refl

-- ---- a port bit without a use

abbrev no_port : PortBit
no_port = record { name = []; output = false }

pub missing_here : (ports : List PortBit) (uses : List (Option PortUse)) (place : ℕ) (d : PortBit) → place < length ports → length uses ≡ length ports → get_or uses place None ≡ None
    → missing_fault (drop place ports) (drop place uses) ≡ Some (Missing (get_or ports place d).name)
missing_here ports uses place d less many none =
    from_here (λ (port, used). unless (is_some used) (Missing port.name)) ports uses place d less many
    ∙ first_some _ (Missing (get_or ports place d).name) _ (ap (λ used. unless (is_some used) (Missing (get_or ports place d).name)) none)

pub missing_later : (ports : List PortBit) (uses : List (Option PortUse)) (place : ℕ) (used : PortUse) → place < length ports → length uses ≡ length ports → get_or uses place None ≡ Some used
    → missing_fault (drop place ports) (drop place uses) ≡ missing_fault (drop (place + 1) ports) (drop (place + 1) uses)
missing_later ports uses place used less many some =
    from_here (λ (port, used). unless (is_some used) (Missing port.name)) ports uses place no_port less many
    ∙ first_none _ _ (ap (λ used. unless (is_some used) (Missing (get_or ports place no_port).name)) some)

pub missing_end : (ports : List PortBit) (uses : List (Option PortUse)) (place : ℕ) → length ports ≤ place → missing_fault (drop place ports) (drop place uses) ≡ None
missing_end ports uses place past = at_end (λ (port, used). unless (is_some used) (Missing port.name)) ports (drop place uses) place past

-- ---- a strobe outside the period

pub strobe_here : (period : ℤ) (ports : List PortBit) (uses : List (Option PortUse)) (place : ℕ) (d : PortBit) → place < length ports → length uses ≡ length ports → is_within period (get_or uses place None) ≡ false
    → strobe_fault period (drop place ports) (drop place uses) ≡ Some (StrobeOutside (get_or ports place d).name)
strobe_here period ports uses place d less many out =
    from_here (λ (port, used). unless (is_within period used) (StrobeOutside port.name)) ports uses place d less many
    ∙ first_some _ (StrobeOutside (get_or ports place d).name) _ (ap (λ passes. unless passes (StrobeOutside (get_or ports place d).name)) out)

pub strobe_later : (period : ℤ) (ports : List PortBit) (uses : List (Option PortUse)) (place : ℕ) → place < length ports → length uses ≡ length ports → is_within period (get_or uses place None) ≡ true
    → strobe_fault period (drop place ports) (drop place uses) ≡ strobe_fault period (drop (place + 1) ports) (drop (place + 1) uses)
strobe_later period ports uses place less many within =
    from_here (λ (port, used). unless (is_within period used) (StrobeOutside port.name)) ports uses place no_port less many
    ∙ first_none _ _ (ap (λ passes. unless passes (StrobeOutside (get_or ports place no_port).name)) within)

pub strobe_end : (period : ℤ) (ports : List PortBit) (uses : List (Option PortUse)) (place : ℕ) → length ports ≤ place → strobe_fault period (drop place ports) (drop place uses) ≡ None
strobe_end period ports uses place past = at_end (λ (port, used). unless (is_within period used) (StrobeOutside port.name)) ports (drop place uses) place past

-- where no strobe is outside, each use is within the period
pub each_within : (period : ℤ) (ports : List PortBit) (uses : List (Option PortUse)) (place : ℕ) → length uses ≡ length ports → strobe_fault period ports uses ≡ None
    → place < length uses → is_within period (get_or uses place None) ≡ true
unfolding first_of
each_within period [] [] place many none less = absurd (omega arith)
each_within period [] (used ∷ uses) place many none less = absurd (omega arith)
each_within period (port ∷ ports) [] place many none less = absurd (omega arith)
each_within period (port ∷ ports) (used ∷ uses) place many none less =
    go (is_within period used) refl place less (λ place rest below. each_within period ports uses place (omega arith) rest below)
  where
    go : (b : Bool) → is_within period used ≡ b → (place : ℕ) → place < length (used ∷ uses)
        → ((place : ℕ) → strobe_fault period ports uses ≡ None → place < length uses → is_within period (get_or uses place None) ≡ true)
        → is_within period (get_or (used ∷ uses) place None) ≡ true
    go false out place less later =
        let bad : ◌≡◌ {A = Option EnvFault} None (Some (StrobeOutside port.name)) = sym none ∙ first_some _ (StrobeOutside port.name) _ (ap (λ passes. unless passes (StrobeOutside port.name)) out) in cc
    go true within zero less later = within
    go true within (suc place) less later = later place (sym (first_none _ _ (ap (λ passes. unless passes (StrobeOutside port.name)) within)) ∙ none) (omega arith)
