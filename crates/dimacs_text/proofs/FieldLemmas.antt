-- The words of a text that spaces part, from a place on.
use Rattle.std.proofs.Common.{◌≡◌, ◌∙◌, ◌<◌, ◌≤◌, ◌+◌, ◌-◌, ℕ, Bool, true, false, zero, suc, refl, sym, ap, arith, take, drop, List, [], ◌∷◌, length, get_or, inl, inr, zero-add}
use Rattle.std.specs.Prelude.{◌==◌}
use Rattle.std.specs.List.{filter}
use Rattle.std.proofs.lemmas.Bool.Decides.{leb_tells, eqb_tells}
use Rattle.dimacs_text.specs.Parts.{Part, front, words, parts, has_bytes, is_space}
use Rattle.dimacs_text.proofs.PartLemmas.{drop_out, split_at, front_ends}
use Rattle.dimacs_text.proofs.WordLemmas.{one_word, no_word}

pub no_field_past : (at : ℕ) (text : List ℕ) → length text ≤ at → words is_space at (drop at text) ≡ []
no_field_past at text le = ap (words is_space at) (drop_out text at le)

pub no_field_here : (at end : ℕ) (text : List ℕ) → at < length text → end ≡ at + length (front is_space (drop at text)) → end ≤ at
    → words is_space at (drop at text) ≡ words is_space (end + 1) (drop (end + 1) text)
no_field_here at end text lt is none = rw (zero-add at, zero-add (end + 1)) at (no_word is_space 0 at end text lt is none)

-- behind a word stands a space, or the end
behind : (end : ℕ) (text : List ℕ) → front is_space (drop end text) ≡ [] → words is_space (end + 1) (drop (end + 1) text) ≡ words is_space end (drop end text)
behind end text stops = elim (leb_tells (suc end) (length text)) [
  | inl t ↦
      let lt = t.1 in
      let size : length (front is_space (drop end text)) ≡ 0 = ap length stops in
      sym (no_field_here end end text lt (omega arith) (omega arith))
  | inr t ↦ let past = t.1 in no_field_past (end + 1) text (omega arith) ∙ sym (no_field_past end text (omega arith))
]

pub field_here : (at end : ℕ) (text : List ℕ) → at < length text → end ≡ at + length (front is_space (drop at text)) → at < end
    → words is_space at (drop at text) ≡ record { start = at; bytes = take (end - at) (drop at text) } ∷ words is_space end (drop end text)
field_here at end text lt is some =
    (rw (zero-add at, zero-add (end + 1)) at (one_word is_space 0 at end text lt is some))
    ∙ ap (λ (ws : List Part). record { start = at; bytes = take (end - at) (drop at text) } ∷ ws) (behind end text (front_ends is_space at end text is))
