-- One more link is threaded.
use Rattle.std.proofs.Common.{◌≡◌, ◌≢◌, ◌∙◌, ◌+◌, ◌⊎◌, inl, inr, ℕ, List, [], ◌∷◌, ◌++◌, length, Option, Some, None, sym, ap, subst, arith, set, length-append, length-set}
use Rattle.std.specs.Prelude.{slice_get}
use Rattle.std.proofs.lemmas.Bool.{cases_eq}
use Rattle.flat_aliases.specs.declared.link.Link.{Link}
use Rattle.flat_aliases.specs.Threads.{NoneFrom, IsLastFrom, IsThreaded}
use Rattle.flat_aliases.proofs.Got.{set_cases, push_cases, one_item}

-- the places and links of which so many links were threaded
pub record IsThreadedTo (links : List Link) (places at : ℕ) (last before : List (Option ℕ)) : Type 0 where
  pub lasts : length last ≡ places
  pub befores : length before ≡ at
  pub last_of : (place : ℕ) (o : Option ℕ) → slice_get last place ≡ Some o → IsLastFrom links place at o
  pub before_of : (k from to : ℕ) (o : Option ℕ) → slice_get links k ≡ Some (record { from = from; to = to }) → slice_get before k ≡ Some o → IsLastFrom links from k o

-- no link leads from a place as far as one more, where that one does not
none_more : (links : List Link) (place low at : ℕ) (link : Link) → slice_get links at ≡ Some link → link.from ≢ place → NoneFrom links place low at → NoneFrom links place low (at + 1)
none_more links place low at link here ne none k to l h e = go (cases_eq k at) where
  go : (k ≡ at) ⊎ (k ≢ at) → ⊥
  go (inl q) = ne (ap (λ (x : Link). x.from) (one_item links at link (record { from = place; to = to }) here (subst (λ (n : ℕ). slice_get links n ≡ Some (record { from = place; to = to })) q e)))
  go (inr n) = none k to l (omega (arith, n)) e

last_more : (links : List Link) (place at : ℕ) (link : Link) (o : Option ℕ) → slice_get links at ≡ Some link → link.from ≢ place → IsLastFrom links place at o → IsLastFrom links place (at + 1) o
last_more links place at link None here ne h = none_more links place 0 at link here ne h
last_more links place at link (Some k) here ne h = (let l = h.0 in omega arith, h.1, none_more links place (k + 1) at link here ne h.2)

last_here : (links : List Link) (at : ℕ) (link : Link) → slice_get links at ≡ Some link → IsLastFrom links link.from (at + 1) (Some at)
last_here links at link here = (omega arith, (link.to, here), λ k to l h e. omega (arith, l, h))

pub thread_more : (links : List Link) (places at : ℕ) (last before : List (Option ℕ)) (link : Link) (o : Option ℕ) → slice_get links at ≡ Some link → slice_get last link.from ≡ Some o →
    IsThreadedTo links places at last before → IsThreadedTo links places (at + 1) (set last link.from (Some at)) (before ++ o ∷ [])
thread_more links places at last before link o here old t = record {
  lasts = simp length-set t.lasts;
  befores = simp length-append (omega (arith, t.befores));
  last_of = λ place p e. elim (set_cases last link.from place (Some at) p e) [
    | inl h ↦ subst (λ (q : Option ℕ). IsLastFrom links place (at + 1) q) h.1 (subst (λ (n : ℕ). IsLastFrom links n (at + 1) (Some at)) (sym h.0) (last_here links at link here))
    | inr h ↦ last_more links place at link p here (λ f. h.0 (sym f)) (t.last_of place p h.1)
  ];
  before_of = λ k from to p e f. elim (push_cases before o k p f) [
    | inl h ↦ t.before_of k from to p e h.0
    | inr h ↦
        let k_is : k ≡ at = h.0 ∙ t.befores in
        let link_is : record { from = from; to = to } ≡ link = one_item links at (record { from = from; to = to }) link (subst (λ (n : ℕ). slice_get links n ≡ Some (record { from = from; to = to })) k_is e) here in
        let old_is : slice_get last from ≡ Some p = ap (λ (x : Link). slice_get last x.from) link_is ∙ old ∙ ap Some h.1 in
        subst (λ (n : ℕ). IsLastFrom links from n p) (sym k_is) (t.last_of from p old_is)
  ];
}

pub threaded : (links : List Link) (places at : ℕ) (last before : List (Option ℕ)) → at ≡ length links → IsThreadedTo links places at last before → IsThreaded links places last before
threaded links places at last before e t = record {
  lasts = t.lasts;
  befores = t.befores ∙ e;
  last_of = λ place o g. subst (λ (n : ℕ). IsLastFrom links place n o) e (t.last_of place o g);
  before_of = t.before_of;
}
