-- Symbols, a line at a time.
use Rattle.std.proofs.Common.{◌≡◌, ◌<◌, ◌≤◌, ◌+◌, ◌-◌, ℕ, Bool, true, false, suc, refl, arith, List, length, drop, take, ◌==◌, None, Some, Ok, Err}
use Rattle.std.specs.Str.{IsUtf8, is_utf8}
use Rattle.std.proofs.lemmas.Bool.{eq-eqb}
use Rattle.std.proofs.lemmas.Str.{IsUtf8-from_is_utf8, is_utf8-from_IsUtf8}
use Rattle.aiger_parts.specs.declared.fault.AigerWhy.TheVariants as why
use Rattle.aiger_parts.specs.Reading.{fault}
use Rattle.aiger_parts.specs.Symbols.{Entries, name_of, line_length, line_at, with_line, ends_symbols, symbols_at}

pub name_empty : (s : List ℕ) → length s ≡ 0 → name_of s ≡ None
unfolding name_of
name_empty s e = rw (eq-eqb (length s) 0 e) refl

pub name_good : (s : List ℕ) → (length s == 0) ≡ false → IsUtf8 s → name_of s ≡ Some s
unfolding name_of
name_good s some utf8 = rw (some, is_utf8-from_IsUtf8 s utf8) refl

pub name_bad : (s : List ℕ) → (length s == 0) ≡ false → ¬ (IsUtf8 s) → name_of s ≡ None
unfolding name_of
name_bad s some bad = go (is_utf8 s) refl where
  go : (b : Bool) → is_utf8 s ≡ b → name_of s ≡ None
  go true is = absurd (bad (IsUtf8-from_is_utf8 s is))
  go false is = rw (some, is) refl

pub symbols_end : (n k : ℕ) (entries : Entries × Entries) (rest : List ℕ) → k < n → ends_symbols rest ≡ true → symbols_at (n - k) entries rest ≡ Ok entries
unfolding symbols_at
symbols_end n k entries rest lt e =
    let fuel : n - k ≡ suc (n - (k + 1)) = omega arith in
    rw (fuel, e) refl

pub symbols_bad : (n k : ℕ) (entries : Entries × Entries) (rest : List ℕ) → k < n → ends_symbols rest ≡ false → with_line entries (take (line_length rest) rest) ≡ None
    → symbols_at (n - k) entries rest ≡ Err (fault why.Symbol rest)
unfolding symbols_at line_at
symbols_bad n k entries rest lt e bad =
    let fuel : n - k ≡ suc (n - (k + 1)) = omega arith in
    rw (fuel, e, bad) refl

pub symbols_more : (n k : ℕ) (entries more : Entries × Entries) (rest : List ℕ) → k < n → ends_symbols rest ≡ false → with_line entries (take (line_length rest) rest) ≡ Some more
    → symbols_at (n - k) entries rest ≡ symbols_at (n - (k + 1)) more (drop (line_length rest + 1) rest)
unfolding symbols_at line_at
symbols_more n k entries more rest lt e good =
    let fuel : n - k ≡ suc (n - (k + 1)) = omega arith in
    rw (fuel, e, good) refl

pub symbols_done : (n k : ℕ) (entries : Entries × Entries) (rest : List ℕ) → n ≤ k → symbols_at (n - k) entries rest ≡ Ok entries
unfolding symbols_at
symbols_done n k entries rest le =
    let fuel : n - k ≡ 0 = omega arith in
    rw fuel refl
