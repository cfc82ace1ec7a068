-- The printed names of the bits of a module's ports.
use Rattle.std.proofs.Common.{◌≡◌, ◌≢◌, ◌∙◌, ◌<◌, ◌≤◌, ◌+◌, ◌-◌, ◌^◌, ℕ, zero, suc, Bool, List, ◌++◌, Option, Some, None, refl, sym, ap, subst, arith, decimal}
use Rattle.std.specs.Prelude.{slice_get, codes}
use Rattle.std.specs.List.{All, AllZip, range_with_len}
use Rattle.std.proofs.lemmas.Bool.Decides.{nat_tests}
use Rattle.std.proofs.lemmas.List.{append_cancel_right, append_cancel_left}
use Rattle.std.proofs.lemmas.Option.{same_Some}
use Rattle.std.proofs.lemmas.Fmt.{decimal_injective}
use Rattle.rsfq_ids.specs.WellFormed.{AreDistinct}
use Rattle.verilog_tree.specs.Trees as tree
use Rattle.bind_sites.specs.declared.sort.Sort.TheVariants as sort
use Rattle.bind_sites.specs.Selects.{width_of, index_at, bit_name, bit_names}
use Rattle.bind_sites.specs.Sites.{Site, Listed, Port, port_names, sites}
use Rattle.bind_sites.specs.Scope.{IsAt, IsPort}
use Rattle.bind_sites.specs.Again.{IsAgain, HasFirstRange, IsPrintedBefore, IsBitAgain}
use Rattle.bind_sites.specs.Small.{AreSmall, HasSmall, NumbersAreSmall}
use Rattle.bind_forms.specs.declared.bound.BoundPort.{BoundPort}
use Rattle.bind_forms.specs.Bits.{port_bit_names}
use Rattle.bind_forms.specs.Binds.{BindsPort, BindsModuleAt}
use Rattle.bind_laws.specs.Laws.{PortBitsAreDistinct}
use Rattle.bind_laws.proofs.Lists.{Pairs, pairs_got, pairs_flat, map_got, got_all, one_got, zip_right}
use Rattle.bind_laws.proofs.Owners.{bound_at, has_sites, reached_sites, not_again, not_bit_again}
use Rattle.bind_laws.proofs.Assigns.{ports_listed}

-- ---- the bits of one port

index_small : (left right bit : ℕ) → left ≤ 999999999 → right ≤ 999999999 → bit < (left - right) + (right - left) + 1 → index_at (left, right) bit < 2 ^ 64
index_small left right bit small_left small_right within =
    let low : index_at (left, right) bit ≤ 999999999 = grind (arith, nat_tests) in
    omega (arith, low)

index_injective : (left right one other : ℕ) → one < (left - right) + (right - left) + 1 → other < (left - right) + (right - left) + 1 → index_at (left, right) one ≡ index_at (left, right) other → one ≡ other
index_injective left right one other within within_too e = grind (arith, nat_tests)

printed_one : (name : List ℕ) (range : Option (ℕ × ℕ)) → AreSmall range → (one other : ℕ) → one < width_of range → other < width_of range → bit_name name range one ≡ bit_name name range other → one ≡ other
printed_one name None small one other l m e = omega arith
printed_one name (Some range) small one other l m e =
    let open_ = append_cancel_right (name ++ codes "[" ++ decimal (index_at range one)) (name ++ codes "[" ++ decimal (index_at range other)) (codes "]") e in
    let digits = append_cancel_left (name ++ codes "[") (decimal (index_at range one)) (decimal (index_at range other)) open_ in
    let same = decimal_injective (index_at range one) (index_at range other) (index_small range.0 range.1 one small.0 small.1 l) (index_small range.0 range.1 other small.0 small.1 m) digits in
    index_injective range.0 range.1 one other l m same

-- an item of a range is its place
range_got : (a n k x : ℕ) → slice_get (range_with_len a n) k ≡ Some x → (x ≡ a + k) × (k < n)
range_got a zero k x e = absurd cc
range_got a (suc n) zero x e = let same = same_Some a x e in (omega (arith, same), omega arith)
range_got a (suc n) (suc k) x e = let h = range_got (a + 1) n k x e in let p = h.0 in let q = h.1 in (omega arith, omega arith)

-- a printed name is that of a bit
bit_got : (name : List ℕ) (range : Option (ℕ × ℕ)) (k : ℕ) (printed : List ℕ) → slice_get (bit_names name range) k ≡ Some printed → (k < width_of range) × (bit_name name range k ≡ printed)
bit_got name range k printed e =
    let m = map_got (bit_name name range) (range_with_len 0 (width_of range)) k printed e in
    let r = range_got 0 (width_of range) k m.0 m.1 in
    let is = r.0 in
    let place : m.0 ≡ k = omega (arith, is) in
    (r.1, ap (bit_name name range) (sym place) ∙ m.2)

own_bits : (name : List ℕ) (range : Option (ℕ × ℕ)) → AreSmall range → Pairs (λ one other. one ≢ other) (bit_names name range)
own_bits name range small i j x y l e f same =
    let a = bit_got name range i x e in
    let b = bit_got name range j y f in
    let is = printed_one name range small i j a.0 b.0 (a.1 ∙ (same ∙ sym b.1)) in
    omega (arith, is)

-- ---- the bits of two ports

-- A module of which no name is given twice, and no bit of a port has the name of an earlier one.
abbrev HasNoneAgain : List Site → Type 0
HasNoneAgain all = ((site : ℕ) (name : List ℕ) → ¬ IsAgain all site name) × ((site : ℕ) (name : List ℕ) → ¬ IsBitAgain all site name)

first_range : (all : List Site) → HasNoneAgain all → (name : List ℕ) (output : Bool) (range : Option (ℕ × ℕ)) → IsPort all name output range → HasFirstRange all name range
first_range all none name output range port = record {
  at = port.0;
  output = output;
  there = port.1;
  first = λ way other before. none.0 port.0 name (sort.Direction, refl, ((Port name output range, port.1, refl), (before.0, before.1, (Port name way other, before.2, refl))));
}

-- no bit of a port has the printed name of a bit that is listed before
none_printed : (all : List Site) → HasNoneAgain all → (at : ℕ) (name : List ℕ) (range : Option (ℕ × ℕ)) → IsAt all at (Listed name) → HasFirstRange all name range
    → (limit bit : ℕ) → bit < limit → bit < width_of range → ¬ IsPrintedBefore all at (bit_name name range bit)
none_printed all none at name range listed has zero bit l within before = omega arith
none_printed all none at name range listed has (suc limit) bit l within before = none.1 at (bit_name name range bit) (record {
  name = name;
  range = range;
  bit = bit;
  listed = listed;
  alone = λ earlier. none.0 at name (sort.Listed, refl, ((Listed name, listed, refl), (earlier.0, earlier.1, (Listed name, earlier.2, refl))));
  range_is = has;
  within = within;
  printed_is = refl;
  before = before;
  first = λ earlier less. none_printed all none at name range listed has limit earlier (omega (arith, less)) (omega (arith, less));
})

bits_apart : (all : List Site) → HasNoneAgain all → (name other : List ℕ) (output way : Bool) (range second : Option (ℕ × ℕ)) → IsPort all name output range → IsPort all other way second
    → (a b : ℕ) → a < b → IsAt all a (Listed name) → IsAt all b (Listed other) → (i j : ℕ) → i < width_of range → j < width_of second → bit_name name range i ≢ bit_name other second j
bits_apart all none name other output way range second port port_too a b l listed listed_too i j within within_too same =
    none_printed all none b other second listed_too (first_range all none other way second port_too) (suc j) j (omega arith) within_too (record {
      name = name;
      range = range;
      bit = i;
      listed = (a, l, listed);
      range_is = first_range all none name output range port;
      within = within;
      printed_is = sym same;
    })

-- ---- all bits

module_bits : (owner : tree.Module) (ports : List BoundPort) → HasNoneAgain (sites owner) → All HasSmall (sites owner) → AllZip (BindsPort (sites owner)) (port_names owner.head) ports → AreDistinct (port_bit_names ports)
module_bits owner ports none small b = pairs_got (λ one other. one ≢ other) (port_bit_names ports) (pairs_flat (λ one other. one ≢ other) (λ (port : BoundPort). bit_names port.name port.range) ports own across) where
  own : (k : ℕ) (port : BoundPort) → slice_get ports k ≡ Some port → Pairs (λ one other. one ≢ other) (bit_names port.name port.range)
  own k port e =
      let r = zip_right (BindsPort (sites owner)) (port_names owner.head) ports k port b e in
      own_bits port.name port.range (got_all HasSmall (sites owner) r.2.declared.0 (Port r.0 port.output port.range) small r.2.declared.1)

  across : (i j : ℕ) (one other : BoundPort) (a c : ℕ) (u v : List ℕ) → i < j → slice_get ports i ≡ Some one → slice_get ports j ≡ Some other
      → slice_get (bit_names one.name one.range) a ≡ Some u → slice_get (bit_names other.name other.range) c ≡ Some v → u ≢ v
  across i j one other a c u v l e f g h same =
      let r = zip_right (BindsPort (sites owner)) (port_names owner.head) ports i one b e in
      let s = zip_right (BindsPort (sites owner)) (port_names owner.head) ports j other b f in
      let listed = ports_listed owner i j r.0 s.0 l r.1 s.1 in
      let first = bit_got one.name one.range a u g in
      let second = bit_got other.name other.range c v h in
      let left : bit_name r.0 one.range a ≡ u = ap (λ (n : List ℕ). bit_name n one.range a) (sym r.2.name_is) ∙ first.1 in
      let right : bit_name s.0 other.range c ≡ v = ap (λ (n : List ℕ). bit_name n other.range c) (sym s.2.name_is) ∙ second.1 in
      bits_apart (sites owner) none r.0 s.0 one.output other.output one.range other.range r.2.declared s.2.declared listed.0 listed.1 listed.2 listed.3 listed.4 a c first.0 second.0 (left ∙ (same ∙ sym right))

pub port_bits_are_distinct : NumbersAreSmall → PortBitsAreDistinct
port_bits_are_distinct numbers setting bound top binds none spelled e =
    let s = bound_at setting bound binds bound.top binds.top binds.top_place in
    let same : s.0 ≡ top = one_got bound.modules bound.top s.0 top s.1 e in
    let m : BindsModuleAt setting binds.places binds.top top = subst (BindsModuleAt setting binds.places binds.top) same s.2 in
    let all = sites m.owner in
    let reached = reached_sites setting bound binds bound.top binds.top top binds.top_place m in
    let small = got_all (λ (owner : tree.Module). All HasSmall (sites owner)) setting.modules binds.top m.owner (numbers setting.modules spelled) m.there in
    module_bits m.owner top.ports
    (not_again setting none binds.top all reached, not_bit_again setting none binds.top all binds.top_is (has_sites setting binds.places binds.top top m))
    small m.binds.ports
