-- Marks on cells: which were seen.
use Rattle.std.proofs.Common.{◌≡◌, ◌<◌, ◌⊎◌, inl, inr, ℕ, zero, suc, Bool, true, false, List, [], ◌∷◌, length, refl, ap, arith, get_or, set, replicate}
use Rattle.flat_form.specs.Walking.{unseen}

pub count_set : (seen : List Bool) (p : ℕ) → get_or seen p true ≡ false → suc (unseen (set seen p true)) ≡ unseen seen
count_set [] p e = absurd cc
count_set (b ∷ seen) zero e = let f : b ≡ false = e in rw f (omega arith)
count_set (b ∷ seen) (suc p) e = let deep = count_set seen p e in omega arith

pub unseen_within : (seen : List Bool) (p : ℕ) → get_or seen p true ≡ false → p < length seen
unseen_within [] p e = absurd cc
unseen_within (b ∷ seen) zero e = omega arith
unseen_within (b ∷ seen) (suc p) e = let l = unseen_within seen p e in omega arith

pub seen_within : (seen : List Bool) (p : ℕ) → get_or seen p false ≡ true → p < length seen
seen_within [] p e = absurd cc
seen_within (b ∷ seen) zero e = omega arith
seen_within (b ∷ seen) (suc p) e = let l = seen_within seen p e in omega arith

pub seen_either : (seen : List Bool) (p : ℕ) → p < length seen → get_or seen p true ≡ get_or seen p false
seen_either [] p l = absurd (omega arith)
seen_either (b ∷ seen) zero l = refl
seen_either (b ∷ seen) (suc p) l = seen_either seen p (omega arith)

pub set_grows : (seen : List Bool) (p c : ℕ) → get_or seen c false ≡ true → get_or (set seen p true) c false ≡ true
set_grows [] p c e = absurd cc
set_grows (b ∷ seen) zero zero e = refl
set_grows (b ∷ seen) zero (suc c) e = e
set_grows (b ∷ seen) (suc p) zero e = e
set_grows (b ∷ seen) (suc p) (suc c) e = set_grows seen p c e

pub set_is : (seen : List Bool) (p : ℕ) → p < length seen → get_or (set seen p true) p false ≡ true
set_is [] p l = absurd (omega arith)
set_is (b ∷ seen) zero l = refl
set_is (b ∷ seen) (suc p) l = set_is seen p (omega arith)

-- what is seen after a mark was seen before, or is the mark
pub set_from : (seen : List Bool) (p c : ℕ) → get_or (set seen p true) c false ≡ true → (c ≡ p) ⊎ (get_or seen c false ≡ true)
set_from [] p c e = absurd cc
set_from (b ∷ seen) zero zero e = inl refl
set_from (b ∷ seen) zero (suc c) e = inr e
set_from (b ∷ seen) (suc p) zero e = inr e
set_from (b ∷ seen) (suc p) (suc c) e = elim (set_from seen p c e) [ inl q ↦ inl (ap suc q) | inr h ↦ inr h ]

-- what was not seen before a mark is not seen after it, or is the mark
pub free_after : (seen : List Bool) (p c : ℕ) → get_or seen c true ≡ false → (c ≡ p) ⊎ (get_or (set seen p true) c true ≡ false)
free_after [] p c e = absurd cc
free_after (b ∷ seen) zero zero e = inl refl
free_after (b ∷ seen) zero (suc c) e = inr e
free_after (b ∷ seen) (suc p) zero e = inr e
free_after (b ∷ seen) (suc p) (suc c) e = elim (free_after seen p c e) [ inl q ↦ inl (ap suc q) | inr h ↦ inr h ]

pub all_seen : (seen : List Bool) → unseen seen ≡ 0 → (p : ℕ) → p < length seen → get_or seen p false ≡ true
all_seen [] z p l = absurd (omega arith)
all_seen (true ∷ seen) z zero l = refl
all_seen (true ∷ seen) z (suc p) l = all_seen seen (omega arith) p (omega arith)
all_seen (false ∷ seen) z p l = absurd (omega arith)

-- some are left over
pub some_unseen : (seen : List Bool) → 0 < unseen seen → (p : ℕ) × (get_or seen p true ≡ false)
some_unseen [] l = absurd (omega arith)
some_unseen (true ∷ seen) l = let deep = some_unseen seen (omega arith) in (suc deep.0, deep.1)
some_unseen (false ∷ seen) l = (0, refl)

pub unmarked : (n : ℕ) → unseen (replicate n false) ≡ n
unmarked zero = refl
unmarked (suc n) = let deep = unmarked n in omega arith

pub no_mark : (n c : ℕ) → get_or (replicate n false) c false ≡ false
no_mark zero c = refl
no_mark (suc n) zero = refl
no_mark (suc n) (suc c) = no_mark n c
