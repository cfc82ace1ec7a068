use Rattle.std.proofs.Common.{◌≡◌, ◌++◌, [], ◌∷◌, Some, None, Ok, true, false, sym, ◌∙◌, ap, arith, lit<, decimal}
use Rattle.std.specs.Result.{result_ok}
use Rattle.std.proofs.lemmas.Option.{MatchOption-at_some, MatchOption-at_none, same_Some}
use Rattle.std.proofs.lemmas.List.{append_cancel_right}
use Rattle.std.proofs.lemmas.Str.Pattern.{strip_suffix_char, NoCharPasses-char}
use Rattle.std.proofs.lemmas.Fmt.{parse-decimal}
use Rattle.std.proofs.lemmas.Slice.Eq.{bytes_eq-Decides}
use Rattle.bind_names.proofs.Splitting.{last_parts, only_split, bracket_within, written}
use Rattle.bind_names.proofs.written.split_bit.Goals as goal

pub returns-in_err-strip_suffix : goal.returns-in_err-strip_suffix
returns-in_err-strip_suffix c =
    rw c.from_residual.ensures (λ name index small e.
    MatchOption-at_none _ _ c.in_err-strip_suffix.was (strip_suffix_char 93 c.args.printed.now c.strip_suffix.result c.strip_suffix.ensures.cases (lit< tt)) _ e)

pub returns-in_err-name : goal.returns-in_err-name
returns-in_err-name c =
    let end : c.args.printed.now ≡ c.in_ok-strip_suffix.field-0.now ++ (93 ∷ []) = MatchOption-at_some _ _ c.in_ok-strip_suffix.field-0 c.in_ok-strip_suffix.was (strip_suffix_char 93 c.args.printed.now c.strip_suffix.result c.strip_suffix.ensures.cases (lit< tt)) in
    rw c.from_residual-in_err-name.ensures (λ name index small e.
    bracket_within c.in_ok-strip_suffix.field-0.now name (decimal index)
    (append_cancel_right _ _ (93 ∷ []) (sym end ∙ e))
    (λ k within. NoCharPasses-char 91 _ k c.in_err-name.ensures.cases (lit< tt) within))

pub returns-in_err-index : goal.returns-in_err-index
returns-in_err-index c =
    let end : c.args.printed.now ≡ c.in_ok-strip_suffix.field-0.now ++ (93 ∷ []) = MatchOption-at_some _ _ c.in_ok-strip_suffix.field-0 c.in_ok-strip_suffix.was (strip_suffix_char 93 c.args.printed.now c.strip_suffix.result c.strip_suffix.ensures.cases (lit< tt)) in
    let parts = last_parts c.in_ok-strip_suffix.field-0.now c.in_ok-name.name.now c.in_ok-name.digits.now c.in_ok-name.ensures.cases in
    rw c.from_residual-in_err-index.ensures (λ name index small e.
    let same = only_split _ _ _ _ end parts.0 parts.1 name index (omega arith) e in
    let parsed : c.parse.result ≡ Ok index = parse-decimal 32 index c.in_ok-name.digits.now c.parse.result small (omega arith) same.1 c.parse.ensures.value.0 in
    let gone : c.ok.result ≡ None = c.in_err-index.was in
    let kept : c.ok.result ≡ result_ok c.parse.result = c.ok.ensures.value in
    let given : c.ok.result ≡ Some index = kept ∙ ap result_ok parsed in
    let wrong : None ≡ Some index = sym gone ∙ given in
    cc)

pub returns-then-eq : goal.returns-then-eq
returns-then-eq c =
    let end : c.args.printed.now ≡ c.in_ok-strip_suffix.field-0.now ++ (93 ∷ []) = MatchOption-at_some _ _ c.in_ok-strip_suffix.field-0 c.in_ok-strip_suffix.was (strip_suffix_char 93 c.args.printed.now c.strip_suffix.result c.strip_suffix.ensures.cases (lit< tt)) in
    let parts = last_parts c.in_ok-strip_suffix.field-0.now c.in_ok-name.name.now c.in_ok-name.digits.now c.in_ok-name.ensures.cases in
    let same : c.format.result.now ≡ c.in_ok-name.digits.now = (bytes_eq-Decides c.format.result.now c.in_ok-name.digits.now).0 (sym c.if-eq.ensures) in
    let digits : c.in_ok-name.digits.now ≡ decimal c.in_ok-index.index = sym same ∙ c.format.ensures.text in
    (omega arith, written c.args.printed.now _ _ _ c.in_ok-index.index end parts.0 digits)

pub returns-else-eq : goal.returns-else-eq
returns-else-eq c =
    let end : c.args.printed.now ≡ c.in_ok-strip_suffix.field-0.now ++ (93 ∷ []) = MatchOption-at_some _ _ c.in_ok-strip_suffix.field-0 c.in_ok-strip_suffix.was (strip_suffix_char 93 c.args.printed.now c.strip_suffix.result c.strip_suffix.ensures.cases (lit< tt)) in
    let parts = last_parts c.in_ok-strip_suffix.field-0.now c.in_ok-name.name.now c.in_ok-name.digits.now c.in_ok-name.ensures.cases in
    λ name index small e.
    let same = only_split _ _ _ _ end parts.0 parts.1 name index (omega arith) e in
    let parsed : c.parse.result ≡ Ok index = parse-decimal 32 index c.in_ok-name.digits.now c.parse.result small (omega arith) same.1 c.parse.ensures.value.0 in
    let kept : c.ok.result ≡ result_ok c.parse.result = c.ok.ensures.value in
    let given : c.ok.result ≡ Some index = kept ∙ ap result_ok parsed in
    let it : c.in_ok-index.index ≡ index = same_Some _ _ (sym c.in_ok-index.was ∙ given) in
    let text : c.format.result.now ≡ c.in_ok-name.digits.now = c.format.ensures.text ∙ (ap decimal it ∙ sym same.1) in
    let wrong : false ≡ true = c.if-eq.ensures ∙ (bytes_eq-Decides c.format.result.now c.in_ok-name.digits.now).1 text in
    cc
