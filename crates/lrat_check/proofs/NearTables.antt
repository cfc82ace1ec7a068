-- The table of marks while a clause is met.
use Rattle.std.proofs.Common.{◌≡◌, ◌≤◌, ◌*◌, ℕ, arith, min, max}

-- a table that was near stays so where more was met
pub still_near : (old table vars met above far many : ℕ) → old ≤ 2 * min vars (max 65536 met) → met ≤ many → far ≡ max vars above → table ≡ old → table ≤ 2 * min far (max 65536 many)
still_near old table vars met above far many near more far_is same = omega arith

-- one that was made larger for it is near
pub grown_near : (old table vars met above far many size : ℕ) → old ≤ 2 * min vars (max 65536 met) → met ≤ many → far ≡ max vars above → size ≡ min far (max 65536 many)
    → table ≡ max old (2 * size) → table ≤ 2 * min far (max 65536 many)
grown_near old table vars met above far many size near more far_is size_is table_is = omega arith
