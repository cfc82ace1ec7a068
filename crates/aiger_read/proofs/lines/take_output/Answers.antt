use Rattle.std.proofs.Common.{◌≡◌, ◌∙◌, ℕ, ◌+◌, ◌*◌, Bool, true, false, refl, ap, sym, subst, List, [], length, Result, Ok, Err}
use Rattle.std.specs.Prelude.{◌==◌, nat_lt, if◌then◌else◌}
use Rattle.std.proofs.lemmas.Result.{err_from_is_err_and}
use Rattle.aiger_parts.specs.declared.fault.AigerWhy.TheVariants as why
use Rattle.aiger_parts.specs.declared.fault.Stop.{Stop}
use Rattle.aiger_parts.specs.declared.fault.ReadStop.{ReadStop}
use Rattle.aiger_parts.specs.declared.fault.ReadStop.TheVariants as stop
use Rattle.aiger_read.specs.declared.lines.Used.{Used}
use Rattle.aiger_parts.specs.Reading.{◌>>=◌, Fails, fault, number_at, line_end_at, literal_at}
use Rattle.aiger_read.specs.Lines.{use_at, output_at}
use Rattle.aiger_read.proofs.lines.take_output.Goals as goal

abbrev used : List ℕ → ℕ × List ℕ → Result (Used × List ℕ) Stop
used bytes x = Ok (record { literal = x.0; left = length bytes }, x.1)

-- the line of an output is a line of one literal, with its place
as_literal : (top : ℕ) (bytes : List ℕ) → (literal_at (2 * top + 1) bytes >>= used bytes) ≡ output_at top bytes
unfolding literal_at output_at use_at
as_literal top bytes = start (length bytes == 0) where
  test : (x : ℕ × List ℕ) (b : Bool)
      → (((if b then Err (fault (why.Range x.0) bytes) else line_end_at x.1) >>= λ behind. Ok (x.0, behind)) >>= used bytes)
      ≡ ((if b then Err (fault (why.Range x.0) bytes) else Ok (record { literal = x.0; left = length bytes }, x.1)) >>= λ (y : Used × List ℕ). line_end_at y.1 >>= λ behind. Ok (y.0, behind))
  test x true = refl
  test x false = last (line_end_at x.1) where
    last : (r : Result (List ℕ) Stop) → ((r >>= λ behind. Ok (x.0, behind)) >>= used bytes) ≡ (r >>= λ behind. Ok (record { literal = x.0; left = length bytes }, behind))
    last (Err e) = refl
    last (Ok behind) = refl

  number : (r : Result (ℕ × List ℕ) Stop)
      → ((r >>= λ x. (if nat_lt (2 * top + 1) x.0 then Err (fault (why.Range x.0) bytes) else line_end_at x.1) >>= λ behind. Ok (x.0, behind)) >>= used bytes)
      ≡ ((r >>= λ x. (if nat_lt (2 * top + 1) x.0 then Err (fault (why.Range x.0) bytes) else Ok (record { literal = x.0; left = length bytes }, x.1)))
      >>= λ (y : Used × List ℕ). line_end_at y.1 >>= λ behind. Ok (y.0, behind))
  number (Err e) = refl
  number (Ok x) = test x (nat_lt (2 * top + 1) x.0)

  start : (none : Bool)
      → ((if none then Err (fault why.Truncated []) else (number_at bytes >>= λ x. (if nat_lt (2 * top + 1) x.0 then Err (fault (why.Range x.0) bytes) else line_end_at x.1) >>= λ behind. Ok (x.0, behind))) >>= used bytes)
      ≡ ((if none then Err (fault why.Truncated []) else Ok bytes) >>= λ (line : List ℕ).
      (number_at line >>= λ x. (if nat_lt (2 * top + 1) x.0 then Err (fault (why.Range x.0) line) else Ok (record { literal = x.0; left = length line }, x.1)))
      >>= λ (y : Used × List ℕ). line_end_at y.1 >>= λ behind. Ok (y.0, behind))
  start true = refl
  start false = number (number_at bytes)

fails_on : {A B : Type 0} (s : ReadStop) (r : Result A Stop) (f : A → Result B Stop) → Fails s r → Fails s (r >>= f)
fails_on stop.Memory r f fails = tt
fails_on (stop.At at) r f fails = ap (λ x. x >>= f) fails

as_fails : (top : ℕ) (bytes : List ℕ) (s : ReadStop) → Fails s (literal_at (2 * top + 1) bytes) → Fails s (output_at top bytes)
as_fails top bytes s fails = subst (Fails s) (as_literal top bytes) (fails_on s (literal_at (2 * top + 1) bytes) (used bytes) fails)

pub returns : goal.returns
returns c = sym (as_literal c.args.top c.args.bytes.now) ∙ ap (λ r. r >>= used c.args.bytes.now) c.in_ok-literal.ensures.is

pub returns-in_err-literal : goal.returns-in_err-literal
returns-in_err-literal c =
    let p = err_from_is_err_and c.from_residual.result c.from_residual.ensures.1 in
    rw (p.1, p.2) (as_fails c.args.top c.args.bytes.now c.in_err-literal.field-0.0 c.in_err-literal.ensures.is)
