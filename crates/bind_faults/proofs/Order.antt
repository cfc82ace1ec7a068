-- The order of the causes.
use Rattle.std.proofs.Common.{◌≡◌, ◌∙◌, ◌<◌, ◌≤◌, ◌+◌, inl, inr, ℕ, zero, suc, ◌∷◌, ◌++◌, take, drop, get_or, refl, sym, ap, subst, arith}
use Rattle.std.specs.List.{All}
use Rattle.std.proofs.lemmas.Bool.{cases_lt}
use Rattle.std.proofs.lemmas.List.{get_or-take, length-take-le}
use Rattle.bind_forms.specs.declared.fault.BindFault.{BindFault}
use Rattle.bind_forms.specs.Modules.{Setting}
use Rattle.bind_forms.specs.First.{Line, Duplicates, Tops, Kinds, Rings, UnknownPorts, PortsTwice, TooManyLinks, UnknownNames, Ranges, Widths, WidthLimits, lines, StandsNowhere, HasNoFault, IsFirstFault}
use Rattle.bind_faults.specs.Order.{rank, IsClear, IsFirstAt}

-- a cause stands at its place among all
at_rank : (line : Line) → get_or lines (rank line) Duplicates ≡ line
at_rank Duplicates = refl
at_rank Tops = refl
at_rank Kinds = refl
at_rank Rings = refl
at_rank UnknownPorts = refl
at_rank PortsTwice = refl
at_rank TooManyLinks = refl
at_rank UnknownNames = refl
at_rank Ranges = refl
at_rank Widths = refl
at_rank WidthLimits = refl

divided : (line : Line) → lines ≡ take (rank line) lines ++ line ∷ drop (rank line + 1) lines
divided Duplicates = refl
divided Tops = refl
divided Kinds = refl
divided Rings = refl
divided UnknownPorts = refl
divided PortsTwice = refl
divided TooManyLinks = refl
divided UnknownNames = refl
divided Ranges = refl
divided Widths = refl
divided WidthLimits = refl

rank_small : (line : Line) → rank line < 11
rank_small Duplicates = omega arith
rank_small Tops = omega arith
rank_small Kinds = omega arith
rank_small Rings = omega arith
rank_small UnknownPorts = omega arith
rank_small PortsTwice = omega arith
rank_small TooManyLinks = omega arith
rank_small UnknownNames = omega arith
rank_small Ranges = omega arith
rank_small Widths = omega arith
rank_small WidthLimits = omega arith

-- and the cause at a place has the place as its rank
rank_at : (k : ℕ) (d : Line) → k < 11 → rank (get_or lines k d) ≡ k
rank_at zero d l = refl
rank_at (suc zero) d l = refl
rank_at (suc (suc zero)) d l = refl
rank_at (suc (suc (suc zero))) d l = refl
rank_at (suc (suc (suc (suc zero)))) d l = refl
rank_at (suc (suc (suc (suc (suc zero))))) d l = refl
rank_at (suc (suc (suc (suc (suc (suc zero)))))) d l = refl
rank_at (suc (suc (suc (suc (suc (suc (suc zero))))))) d l = refl
rank_at (suc (suc (suc (suc (suc (suc (suc (suc zero)))))))) d l = refl
rank_at (suc (suc (suc (suc (suc (suc (suc (suc (suc zero))))))))) d l = refl
rank_at (suc (suc (suc (suc (suc (suc (suc (suc (suc (suc zero)))))))))) d l = refl
rank_at (suc (suc (suc (suc (suc (suc (suc (suc (suc (suc (suc k))))))))))) d l = absurd (omega (arith, l))

same_rank : (one other : Line) → rank one ≡ rank other → one ≡ other
same_rank one other e = sym (at_rank one) ∙ (ap (λ (k : ℕ). get_or lines k Duplicates) e ∙ at_rank other)

none_taken : (setting : Setting) (count : ℕ) → count ≤ 11 → IsClear setting count → All (StandsNowhere setting) (take count lines)
none_taken setting count small clear = λ k d l.
    let near : k < count = omega (arith, l, length-take-le count lines small) in
    let is : get_or (take count lines) k d ≡ get_or lines k d = get_or-take count lines k d near in
    let ranked : rank (get_or lines k d) ≡ k = rank_at k d (omega (arith, near, small)) in
    subst (λ (line : Line). StandsNowhere setting line) (sym is) (clear.none (get_or lines k d) (omega (arith, near, ranked)))

-- nothing stands anywhere
pub no_fault : (setting : Setting) → IsClear setting 11 → HasNoFault setting
no_fault setting clear = λ k d l. clear.none (get_or lines k d) (let ranked : rank (get_or lines k d) ≡ k = rank_at k d l in omega (arith, l, ranked))

-- the first of its cause is answered where no earlier cause stands
pub first_fault : (setting : Setting) (line : Line) (why : BindFault) → IsClear setting (rank line) → IsFirstAt line setting why → IsFirstFault setting why
first_fault setting line why clear found = record {
  earlier = take (rank line) lines;
  line = line;
  later = drop (rank line + 1) lines;
  order = divided line;
  none = none_taken setting (rank line) (let small : rank line < 11 = rank_small line in omega (arith, small)) clear;
  place = found.place;
  stands = found.stands;
  first = found.first;
}

pub clear_none : (setting : Setting) → IsClear setting 0
clear_none setting = record { none = λ line l. absurd (omega (arith, l)) }

pub clear_more : (setting : Setting) (line : Line) → IsClear setting (rank line) → StandsNowhere setting line → IsClear setting (rank line + 1)
clear_more setting line clear none = record {
  none = λ other l. elim (cases_lt (rank other) (rank line)) [
    | inl low ↦ clear.none other low
    | inr high ↦ subst (λ (one : Line). StandsNowhere setting one) (same_rank line other (omega (arith, l, high))) none
  ];
}
