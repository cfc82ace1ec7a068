-- Lines of symbols that break, from what a reader answers.
use Rattle.std.proofs.Common.{◌≡◌, ◌≢◌, ◌∙◌, inl, inr, ◌<◌, ◌≤◌, ◌+◌, ℕ, Bool, true, false, cond, zero, suc, refl, ap, sym, arith, List, [], ◌∷◌, length, take, drop, Option, None, Some, Ok, Err}
use Rattle.std.specs.Prelude.{replicate, slice_set}
use Rattle.std.specs.Str.{bytes_eq}
use Rattle.std.proofs.lemmas.List.{length-replicate}
use Rattle.aiger_parts.specs.declared.fault.AigerWhy.{AigerWhy}
use Rattle.aiger_parts.specs.declared.fault.AigerWhy.TheVariants as why
use Rattle.aiger_parts.specs.declared.fault.Stop.{Stop}
use Rattle.aiger_parts.specs.Reading.{◌>>=◌, fault}
use Rattle.aiger_parts.specs.Symbols.{Entries, line_length, with_line, line_or, line_at, ends_symbols, symbols_at}
use Rattle.aiger_read.specs.Spelled.{IsSymbolLine}
use Rattle.aiger_read.specs.Broken.{IsFree, BreaksSymbols}
use Rattle.aiger_read.proofs.WellFormed as formed
use Rattle.aiger_read.proofs.FileLines.{LinesAt, line_front, one_line, written}
use Rattle.aiger_read.proofs.SymbolFiles.{AllPut, AllOneLine, Put, line_put, line_some, line_written}
use Rattle.aiger_read.proofs.SymbolSets.{lines_are}
use Rattle.aiger_read.proofs.BrokenLines.{failed, same_stop, bind_err, no_stop, lines_shorter, IsPlace}

-- Lines that put their symbols, and then one that does not.
record SymbolsStop (names : Entries × Entries) (bytes : List ℕ) (stop : Stop) : Type 0 where
  lines : List (List ℕ)
  next : Entries × Entries
  last : List ℕ
  at : LinesAt lines bytes last
  put : AllPut names lines next
  one : AllOneLine lines
  goes : ends_symbols last ≡ false
  none : with_line next (take (line_length last) last) ≡ None
  same : fault why.Symbol last ≡ stop

line_bad : (names : Entries × Entries) (bytes : List ℕ) (stop : Stop) → line_at names bytes ≡ Err stop → (with_line names (take (line_length bytes) bytes) ≡ None) × (fault why.Symbol bytes ≡ stop)
unfolding line_at
line_bad names bytes stop e = go (with_line names (take (line_length bytes) bytes)) refl e where
  go : (o : Option (Entries × Entries)) → with_line names (take (line_length bytes) bytes) ≡ o → line_or bytes o ≡ failed stop → (with_line names (take (line_length bytes) bytes) ≡ None) × (fault why.Symbol bytes ≡ stop)
  go None is h = (is, same_stop {A = Entries × Entries} (fault why.Symbol bytes) stop h)
  go (Some x) is h = absurd (no_stop x stop h)

symbols_err : (n : ℕ) (names : Entries × Entries) (bytes : List ℕ) (stop : Stop) → symbols_at n names bytes ≡ Err stop → SymbolsStop names bytes stop
unfolding symbols_at
symbols_err zero names bytes stop e = absurd (no_stop names stop e)
symbols_err (suc n) names bytes stop e = go (ends_symbols bytes) refl e (symbols_err n) where
  go : (t : Bool) → ends_symbols bytes ≡ t → cond t (Ok names) (line_at names bytes >>= λ more. symbols_at n more (drop (line_length bytes + 1) bytes)) ≡ failed stop
      → ((m : Entries × Entries) (bs : List ℕ) (s : Stop) → symbols_at n m bs ≡ Err s → SymbolsStop m bs s) → SymbolsStop names bytes stop
  go true is h more = absurd (no_stop names stop h)
  go false is h more = elim (bind_err (line_at names bytes) (λ m. symbols_at n m (drop (line_length bytes + 1) bytes)) stop h) [
    | inl bad ↦ (let b = line_bad names bytes stop bad in record { lines = []; next = names; last = bytes; at = refl; put = refl; one = tt; goes = is; none = b.0; same = b.1 })
    | inr (next, good, others) ↦ (
        let put = line_put names next bytes good in
        let some = line_some names next (take (line_length bytes) bytes) put in
        let m = more next (drop (line_length bytes + 1) bytes) stop others in
        record {
          lines = take (line_length bytes) bytes ∷ m.lines;
          next = m.next;
          last = m.last;
          at = (drop (line_length bytes + 1) bytes, line_front bytes some, m.at);
          put = (next, put, m.put);
          one = (one_line bytes, m.one);
          goes = m.goes;
          none = m.none;
          same = m.same;
        }
        )
  ]

put_keeps : (lines : List (List ℕ)) (names after : Entries × Entries) → AllPut names lines after → formed.Keeps names after
put_keeps [] names after e = (ap (λ (b : Entries × Entries). length b.0) (sym e), ap (λ (b : Entries × Entries). length b.1) (sym e))
put_keeps (line ∷ lines) names after (next, is, more) =
    let one = formed.line_put names next line is in
    let others = put_keeps lines next after more in
    (others.0 ∙ one.0, others.1 ∙ one.1)

some_last : (last : List ℕ) → ends_symbols last ≡ false → 0 < length last
some_last [] e = absurd cc
some_last (b ∷ bs) e = omega arith

no_comment : (last : List ℕ) → ends_symbols last ≡ false → take (line_length last) last ≢ 99 ∷ []
no_comment [] e same = absurd cc
no_comment (b ∷ bs) e same = let bad : false ≡ true = sym e ∙ ap (λ (l : List ℕ). bytes_eq l (99 ∷ [])) same in absurd cc

-- a symbol of what is free would be put
no_symbol : (names : Entries × Entries) (line : List ℕ) → with_line names line ≡ None → (kind place : ℕ) (name : List ℕ) → IsFree names kind place → IsSymbolLine kind place name line → ⊥
no_symbol names line none kind place name free is = go free where
  not_put : (next : Entries × Entries) → Put names kind place name next → ⊥
  not_put next put = let bad : None ≡ Some next = sym none ∙ line_written names next kind place name line is put in absurd cc

  go : IsFree names kind place → ⊥
  go (inl (k, f)) = not_put (slice_set names.0 place (Some name), names.1) (inl (k, f, refl))
  go (inr (k, f)) = not_put (names.0, slice_set names.1 place (Some name)) (inr (k, f, refl))

pub symbols_break : (n inputs outputs : ℕ) (bytes rest : List ℕ) (offset : ℕ) (cause : AigerWhy) (stop : Stop) → symbols_at n (replicate inputs None, replicate outputs None) rest ≡ Err stop → length rest ≤ length bytes → IsPlace bytes offset cause stop
    → BreaksSymbols inputs outputs bytes rest offset cause
symbols_break n inputs outputs bytes rest offset cause stop e le place =
    let m = symbols_err n (replicate inputs None, replicate outputs None) rest stop e in
    let kept = put_keeps m.lines (replicate inputs None, replicate outputs None) m.next m.put in
    let shorter = lines_shorter m.lines rest m.last m.at in
    let left : length m.last ≡ stop.left = ap (λ (s : Stop). s.left) m.same in
    let at = place.1 in
    record {
      names = m.next;
      symbols = m.lines;
      last = m.last;
      ins = kept.0 ∙ length-replicate inputs None;
      outs = kept.1 ∙ length-replicate outputs None;
      symbol_lines = lines_are inputs outputs m.lines m.next m.one m.put;
      parts = elim (written m.lines rest m.last m.at) [ inl is ↦ is | inr short ↦ absurd (not_empty m.last m.goes short.1) ];
      some = some_last m.last m.goes;
      no_comment = no_comment m.last m.goes;
      no_symbol = no_symbol m.next (take (line_length m.last) m.last) m.none;
      cause_is = place.0 ∙ ap (λ (s : Stop). s.why) (sym m.same);
      offset_is = omega arith;
    }
  where
    not_empty : (last : List ℕ) → ends_symbols last ≡ false → last ≡ [] → ⊥
    not_empty last goes empty = let bad : false ≡ true = sym goes ∙ ap ends_symbols empty in absurd cc
