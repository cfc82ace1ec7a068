use Rattle.std.proofs.Common.{◌≡◌, ◌≤◌, ◌⊎◌, inl, inr, ℕ, List, [], ◌∷◌, drop, length, min, append-nil, arith, refl, drop_of_length-le}
use Rattle.std.specs.Prelude.{ℤ}
use Rattle.rsfq_ids.specs.declared.offence.PathArc.{PathArc}
use Rattle.rsfq_ids.specs.Design.{Design}
use Rattle.signoff.specs.Text.{arc_lines}
use Rattle.signoff.proofs.text.arc_lines.Goals as goal

no_delays : (design : Design) (arcs : List PathArc) → arc_lines design arcs [] ≡ []
no_delays design [] = refl
no_delays design (first ∷ arcs) = refl

-- no line where arcs or delays have come to their end
lines_end : (design : Design) (arcs : List PathArc) (delays : List ℤ) (i : ℕ) → (length arcs ≤ i) ⊎ (length delays ≤ i) → arc_lines design (drop i arcs) (drop i delays) ≡ []
lines_end design arcs delays i (inl over) = rw (drop_of_length-le arcs over) refl
lines_end design arcs delays i (inr over) = rw (drop_of_length-le delays over) (no_delays design (drop i arcs))

-- one list or the other ends at the less of their lengths
one_ends : (arcs delays least i : ℕ) → least ≡ min arcs delays → least ≤ i → (arcs ≤ i) ⊎ (delays ≤ i)
one_ends arcs delays least i is over = grind arith

pub returns : goal.returns
returns c =
    let over = one_ends _ _ _ _ c.min-count.ensures c.loop-i-test.false in
    let whole = rw (lines_end _ _ _ _ over, append-nil) at c.loop-i.invariant in
    whole
