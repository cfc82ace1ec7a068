use Rattle.std.proofs.Common.{◌≡◌, ◌∙◌, ◌-◌, ◌<◌, ℕ, List, Some, length, get_or, refl, sym, ap, subst, arith}
use Rattle.std.specs.Prelude.{slice_get}
use Rattle.std.proofs.lemmas.Option.{slice_get_read}
use Rattle.bind_forms.specs.declared.bound.BoundInstance.{BoundInstance}
use Rattle.flat_places.specs.Hierarchy.{instances_of, bits_by}
use Rattle.flat_places.specs.Rounds.{empty_size}
use Rattle.flat_names.specs.Begins.{AreBegins}
use Rattle.flat_names.specs.Found.{size_bits, IsInInstance}
use Rattle.flat_names.proofs.Begun.{lies_in}
use Rattle.flat_names.proofs.Lists.{read_from}
use Rattle.flat_names.proofs.finding.find_instance.Goals as goal
use Rattle.flat_places.proofs.Modules.{instances_at}

pub unreachable-requires : goal.unreachable-requires
unreachable-requires c =
    let bound = c.args.source.bound.now in
    let sizes = c.args.source.sizes.now in
    let owner = c.index-as_slice-at.result in
    let there = slice_get_read bound.modules (length bound.modules) c.args.at owner refl c.requires.there (read_from bound.modules c.as_slice.result.now c.args.at owner c.as_slice.ensures c.index-as_slice-at.is) in
    let xs = c.as_slice-instances.result.now in
    let same : instances_of bound c.args.at ≡ xs = instances_at bound c.args.at owner there ∙ sym c.as_slice-instances.ensures in
    let begins : AreBegins (size_bits sizes) xs c.args.begins.now = subst (λ (is : List BoundInstance). AreBegins (size_bits sizes) is c.args.begins.now) same c.requires.begins in
    let k = c.last_begin-place.result in
    let instance = c.index-instances-place.result in
    let inside = c.last_begin-place.ensures.there in
    let counted = begins.counted in
    let other = c.if-place-instances.false in
    let low : k < length xs = omega (arith, inside, counted, other) in
    let listed : slice_get xs k ≡ Some instance = slice_get_read xs (length xs) k instance refl low c.index-instances-place.is in
    let lies = lies_in (size_bits sizes) xs c.args.begins.now c.args.number k instance begins c.requires.few listed c.last_begin-place.ensures.not_above c.last_begin-place.ensures.next_above in
    let within = lies.within in
    let none = ap (bits_by (λ (at : ℕ). (get_or sizes at empty_size).bits)) c.in-Cell.is in
    absurd (omega (arith, within, none))

pub returns : goal.returns
returns c =
    let bound = c.args.source.bound.now in
    let sizes = c.args.source.sizes.now in
    let owner = c.index-as_slice-at.result in
    let there = slice_get_read bound.modules (length bound.modules) c.args.at owner refl c.requires.there (read_from bound.modules c.as_slice.result.now c.args.at owner c.as_slice.ensures c.index-as_slice-at.is) in
    let xs = c.as_slice-instances.result.now in
    let same : instances_of bound c.args.at ≡ xs = instances_at bound c.args.at owner there ∙ sym c.as_slice-instances.ensures in
    let begins : AreBegins (size_bits sizes) xs c.args.begins.now = subst (λ (is : List BoundInstance). AreBegins (size_bits sizes) is c.args.begins.now) same c.requires.begins in
    let k = c.last_begin-place.result in
    let instance = c.index-instances-place.result in
    let inside = c.last_begin-place.ensures.there in
    let counted = begins.counted in
    let other = c.if-place-instances.false in
    let low : k < length xs = omega (arith, inside, counted, other) in
    let listed : slice_get xs k ≡ Some instance = slice_get_read xs (length xs) k instance refl low c.index-instances-place.is in
    let lies = lies_in (size_bits sizes) xs c.args.begins.now c.args.number k instance begins c.requires.few listed c.last_begin-place.ensures.not_above c.last_begin-place.ensures.next_above in
    let bits = ap (bits_by (λ (at : ℕ). (get_or sizes at empty_size).bits)) c.in-Module.is in
    let rest = c.args.number - get_or c.args.begins.now k 0 in
    subst (λ (is : List BoundInstance). IsInInstance sizes is c.args.number (record { at = k; inner = c.in-Module.inner; rest = rest })) (sym same)
    (record { instance = instance; there = listed; kind = c.in-Module.is; numbered = lies.numbered; within = subst (λ (n : ℕ). rest < n) bits lies.within })
