use Rattle.std.proofs.Common.{◌≡◌, ◌∙◌, ◌+◌, ◌-◌, ◌<◌, ◌≤◌, ℕ, List, length, take, sum_by, get_or, Some, refl, sym, ap, subst, arith, rules}
use Rattle.std.specs.Prelude.{slice_get}
use Rattle.std.specs.Option.{option_copied}
use Rattle.std.proofs.lemmas.Option.{slice_get_read, same_Some, MatchOption-at_none}
use Rattle.bind_forms.specs.declared.bound.BoundInstance.{BoundInstance}
use Rattle.bind_forms.specs.declared.bound.BoundKind.TheVariants.{Module}
use Rattle.bind_forms.specs.declared.bound.BoundWire.{BoundWire}
use Rattle.bind_forms.specs.Bits.{width_of, bit_name}
use Rattle.flat_places.specs.Hierarchy.{instances_of, bits_of}
use Rattle.flat_places.specs.Paths.{longer}
use Rattle.flat_names.specs.Found.{size_bits, IsInInstance, IsPlaceNamed}
use Rattle.flat_names.specs.Begins.{AreBegins}
use Rattle.flat_names.proofs.Begun.{begun_at}
use Rattle.flat_names.proofs.Lists.{read_from, read_at, ok_then}
use Rattle.flat_names.proofs.Placing.{count_by_sizes, found_there, inner_fits, own_named, inner_named}
use Rattle.flat_names.proofs.finding.+place_name.Goals as goal
use Rattle.flat_places.proofs.Modules.{instances_at}

pub returns-in-Ok : goal.returns-in-Ok
returns-in-Ok t c =
    let bound = c.args.source.bound.now in
    let owner = c.index-as_slice-at.result in
    let there = slice_get_read bound.modules (length bound.modules) c.args.at owner refl c.requires.there (read_from bound.modules c.as_slice.result.now c.args.at owner c.as_slice.ensures c.index-as_slice-at.is) in
    let found = c.in-Ok.ensures in
    let wire = c.index-as_slice-found.result in
    let wires = c.as_slice-2.result.now in
    let listed : slice_get wires c.in-Ok.found.at ≡ Some wire = read_at wires c.as_slice-in-Ok.result.now c.in-Ok.found.at found.wire wire found.there (c.as_slice-in-Ok.ensures ∙ sym c.as_slice-2.ensures) c.index-as_slice-found.is in
    let is_found : found.wire ≡ wire = same_Some found.wire wire (sym found.there ∙ listed) in
    let low : c.in-Ok.found.rest < width_of wire.range = subst (λ (w : BoundWire). c.in-Ok.found.rest < width_of w.range) is_found found.within in
    let text : c.as_str-in-Ok.result.now ≡ bit_name wire.name wire.range c.in-Ok.found.rest = c.as_str-in-Ok.ensures ∙ c.in_ok-own-in-Ok.ensures ∙ ap (λ (n : List ℕ). bit_name n wire.range c.in-Ok.found.rest) c.as_str.ensures in
    ok_then (λ (name : List ℕ). name ≡ longer (option_copied c.args.path) c.as_str-in-Ok.result.now) (IsPlaceNamed bound c.args.levels c.args.at (option_copied c.args.path) c.args.number)
    (λ name is. own_named bound c.args.levels c.args.at (option_copied c.args.path) c.args.number owner wires c.in-Ok.found.at c.in-Ok.found.rest wire name there c.as_slice-2.ensures listed found.numbered low (is ∙ ap (longer (option_copied c.args.path)) text))
    c.longer_path.result c.longer_path.ensures

pub find_instance-requires-clause-begins : goal.find_instance-requires-clause-begins
find_instance-requires-clause-begins t c =
    let bound = c.args.source.bound.now in
    let owner = c.index-as_slice-at.result in
    let there = slice_get_read bound.modules (length bound.modules) c.args.at owner refl c.requires.there (read_from bound.modules c.as_slice.result.now c.args.at owner c.as_slice.ensures c.index-as_slice-at.is) in
    let begin = c.index-begins-at.result in
    let sizes = c.args.source.sizes.now in
    let read : owner ≡ get_or bound.modules c.args.at owner = read_from bound.modules c.as_slice.result.now c.args.at owner c.as_slice.ensures c.index-as_slice-at.is in
    let begun = begun_at sizes bound.modules c.args.begins.now c.args.at owner begin c.requires.begins c.requires.there read c.index-begins-at.is in
    subst (AreBegins (size_bits sizes) (instances_of bound c.args.at)) (sym c.as_slice-4.ensures.value)
    (subst (λ (is : List BoundInstance). AreBegins (size_bits sizes) is begin.instances.items) (sym (instances_at bound c.args.at owner there)) begun.instances)

pub offset_bounds-as_slice-found-2 : goal.offset_bounds-as_slice-found-2
offset_bounds-as_slice-found-2 t c =
    let bound = c.args.source.bound.now in
    let owner = c.index-as_slice-at.result in
    let there = slice_get_read bound.modules (length bound.modules) c.args.at owner refl c.requires.there (read_from bound.modules c.as_slice.result.now c.args.at owner c.as_slice.ensures c.index-as_slice-at.is) in
    let low = found_there bound c.args.at owner c.as_slice-5.result.now c.in-Some.found.at (c.in-Some.ensures).instance there c.as_slice-5.ensures (c.in-Some.ensures).there in
    search rules

pub bounds-as_slice-found-2 : goal.bounds-as_slice-found-2
bounds-as_slice-found-2 t c =
    let bound = c.args.source.bound.now in
    let owner = c.index-as_slice-at.result in
    let there = slice_get_read bound.modules (length bound.modules) c.args.at owner refl c.requires.there (read_from bound.modules c.as_slice.result.now c.args.at owner c.as_slice.ensures c.index-as_slice-at.is) in
    found_there bound c.args.at owner c.as_slice-5.result.now c.in-Some.found.at (c.in-Some.ensures).instance there c.as_slice-5.ensures (c.in-Some.ensures).there

pub unreachable-requires : goal.unreachable-requires
unreachable-requires t c =
    let bound = c.args.source.bound.now in
    let owner = c.index-as_slice-at.result in
    let there = slice_get_read bound.modules (length bound.modules) c.args.at owner refl c.requires.there (read_from bound.modules c.as_slice.result.now c.args.at owner c.as_slice.ensures c.index-as_slice-at.is) in
    let sizes = c.args.source.sizes.now in
    let past = MatchOption-at_none (sum_by (size_bits sizes) (instances_of bound c.args.at) ≤ c.in-Err.rest) (IsInInstance sizes (instances_of bound c.args.at) c.in-Err.rest) c.in_default.is c.find_instance.ensures in
    let all = count_by_sizes c.args.source.cells.now bound c.args.levels c.args.at owner sizes c.requires.source.is_bound c.requires.source.sizes c.requires.levels c.requires.deep c.requires.few there in
    let number = c.in-Err.ensures in
    let wires = ap bits_of c.as_slice-2.ensures in
    let instances = ap (sum_by (size_bits sizes)) (instances_at bound c.args.at owner there) in
    let within = c.requires.number in
    absurd (omega (arith, past, all, number, wires, instances, within))

pub place_name-requires : goal.place_name-requires
place_name-requires t c =
    let bound = c.args.source.bound.now in
    let owner = c.index-as_slice-at.result in
    let there = slice_get_read bound.modules (length bound.modules) c.args.at owner refl c.requires.there (read_from bound.modules c.as_slice.result.now c.args.at owner c.as_slice.ensures c.index-as_slice-at.is) in
    let found = c.in-Some.ensures in
    let k = c.in-Some.found.at in
    let inner = c.in-Some.found.inner in
    let instance = c.index-as_slice-found-2.result in
    let of_owner = instances_at bound c.args.at owner there in
    let listed : slice_get owner.instances k ≡ Some instance =
    read_at owner.instances c.as_slice-5.result.now k found.instance instance (subst (λ (is : List BoundInstance). slice_get is k ≡ Some found.instance) of_owner found.there) c.as_slice-5.ensures c.index-as_slice-found-2.is in
    let is_found : found.instance ≡ instance = same_Some found.instance instance (sym (subst (λ (is : List BoundInstance). slice_get is k ≡ Some found.instance) of_owner found.there) ∙ listed) in
    let kind : instance.kind ≡ Module inner = ap (λ (i : BoundInstance). i.kind) (sym is_found) ∙ found.kind in
    let fits = inner_fits c.args.source.cells.now bound c.args.levels c.args.at owner c.args.source.sizes.now c.requires.source.is_bound c.requires.source.sizes c.requires.levels c.requires.deep c.requires.few there k inner instance listed kind in
    let low = fits.low in
    let high = c.requires.levels in
    let same = fits.same in
    let within = found.within in
    let measure : c.args.levels ≡ t = c.decreases in
    (omega (arith, measure, low), (c.requires.source, (c.requires.begins, (fits.there, (omega (arith, high), (fits.deep, (fits.few, omega (arith, same, within))))))))

pub returns : goal.returns
returns t c =
    let bound = c.args.source.bound.now in
    let owner = c.index-as_slice-at.result in
    let there = slice_get_read bound.modules (length bound.modules) c.args.at owner refl c.requires.there (read_from bound.modules c.as_slice.result.now c.args.at owner c.as_slice.ensures c.index-as_slice-at.is) in
    let found = c.in-Some.ensures in
    let k = c.in-Some.found.at in
    let inner = c.in-Some.found.inner in
    let instance = c.index-as_slice-found-2.result in
    let of_owner = instances_at bound c.args.at owner there in
    let listed : slice_get owner.instances k ≡ Some instance =
    read_at owner.instances c.as_slice-5.result.now k found.instance instance (subst (λ (is : List BoundInstance). slice_get is k ≡ Some found.instance) of_owner found.there) c.as_slice-5.ensures c.index-as_slice-found-2.is in
    let is_found : found.instance ≡ instance = same_Some found.instance instance (sym (subst (λ (is : List BoundInstance). slice_get is k ≡ Some found.instance) of_owner found.there) ∙ listed) in
    let kind : instance.kind ≡ Module inner = ap (λ (i : BoundInstance). i.kind) (sym is_found) ∙ found.kind in
    let named : c.as_str-3.result.now ≡ longer (option_copied c.args.path) instance.name = c.as_str-3.ensures ∙ c.in_ok-path.ensures ∙ ap (longer (option_copied c.args.path)) c.as_str-2.ensures in
    let all : c.args.number ≡ bits_of owner.wires + (sum_by (size_bits c.args.source.sizes.now) (take k owner.instances) + c.in-Some.found.rest) =
    (let n = c.in-Err.ensures in let r = found.numbered in let w = ap bits_of c.as_slice-2.ensures in let s = ap (λ (is : List BoundInstance). sum_by (size_bits c.args.source.sizes.now) (take k is)) of_owner in omega (arith, n, r, w, s)) in
    ok_then (IsPlaceNamed bound (c.args.levels - 1) inner (Some c.as_str-3.result.now) c.in-Some.found.rest) (IsPlaceNamed bound c.args.levels c.args.at (option_copied c.args.path) c.args.number)
    (λ name is. inner_named c.args.source.cells.now bound c.args.levels c.args.at (option_copied c.args.path) c.args.number c.in-Some.found.rest owner c.args.source.sizes.now k inner instance name c.requires.source.is_bound c.requires.source.sizes c.requires.levels
    c.requires.deep c.requires.few there listed kind all (subst (λ (p : List ℕ). IsPlaceNamed bound (c.args.levels - 1) inner (Some p) c.in-Some.found.rest name) named is))
    c.place_name.result c.place_name.ensures

pub bit_name-requires : goal.bit_name-requires
bit_name-requires t c =
    let found = c.in-Ok.ensures in
    let wire = c.index-as_slice-found.result in
    let wires = c.as_slice-2.result.now in
    let listed : slice_get wires c.in-Ok.found.at ≡ Some wire = read_at wires c.as_slice-in-Ok.result.now c.in-Ok.found.at found.wire wire found.there (c.as_slice-in-Ok.ensures ∙ sym c.as_slice-2.ensures) c.index-as_slice-found.is in
    let is_found : found.wire ≡ wire = same_Some found.wire wire (sym found.there ∙ listed) in
    subst (λ (w : BoundWire). c.in-Ok.found.rest < width_of w.range) is_found found.within
