use Rattle.std.proofs.Common.{◌≡◌, ◌∙◌, sym, ◌≤◌, ℕ, decimal, arith}
use Rattle.std.proofs.lemmas.Fmt.{decimal_injective}
use Rattle.signoff.proofs.words.read_times.Goals as goal
use Rattle.signoff.proofs.words.read_times.Goals.{else-times-ge1-via-then-times-ge1+else-times, else-times-ge1-via-else-times-ge1}

-- two numbers of one spelling
one_number : (m n : ℕ) → m ≤ 1000000000 → n ≤ 1000000000 → decimal m ≡ decimal n → m ≡ n
one_number m n small_m small_n same = decimal_injective m n (omega arith) (omega arith) same

pub returns-else-times-ge1 : goal.returns-else-times-ge1
returns-else-times-ge1 c t times is_p is_l is_h =
    let own_p = c.in_ok-read_number.ensures in
    let own_l = c.in_ok-read_number-2.ensures in
    let own_h = c.in_ok-read_number-3.ensures in
    let same_p = one_number t.period _ times.period_to own_p.0 (sym is_p ∙ own_p.1) in
    let same_l = one_number t.low _ (omega arith) own_l.0 (sym is_l ∙ own_l.1) in
    let same_h = one_number t.high _ times.arrival_to own_h.0 (sym is_h ∙ own_h.1) in
    elim c.else-times-ge1.branch [
      | else-times-ge1-via-then-times-ge1+else-times w ↦ omega arith
      | else-times-ge1-via-else-times-ge1 w ↦ omega arith
    ]
