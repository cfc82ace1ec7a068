use Rattle.std.proofs.Common.{ap₂, Some, ◌≡◌, ◌∙◌, ◌∷◌, [], false, refl, ap, subst, sym, codes, map, string_bytes, true}
use Rattle.std.specs.Prelude.{option_map}
use Rattle.clap.specs.Words.{App, HasKind, fault_of, is_simple, is_simple_and_free, found_of, matches_of, rows_of}
use Rattle.lrat_check.specs.Usage.{lrat_command}
use Rattle.lrat_check.specs.declared.words.WordsFault.TheVariants.{Words}
use Rattle.lrat_check.proofs.Commands.{lrat_free, lrat_simple}
use Rattle.lrat_check.proofs.Parses.{by_cause, read_text}
use Rattle.lrat_check.specs.Grammar.{values_in}
use Rattle.lrat_check.proofs.PlainWords.{AllHaveChars, lrat_reads, lrat_takes, none_of, two_of}
use Rattle.lrat_check.proofs.Utf8Words.{strings_have_chars}
use Rattle.clap.specs.Words.{Kinds, Text}
use Rattle.lrat_check.proofs.words.lrat_words_of.Goals as goal

pub returns-in-Err-clause-refused : goal.returns-in-Err-clause-refused
returns-in-Err-clause-refused c = λ is none.
    let is_words : c.fault_from.result ≡ Words = cc in
    let kinds = subst (λ (a : App). is_simple_and_free a ≡ true → HasKind (fault_of a (map string_bytes c.args.words.now)) c.in-Err.error)
    c.in_ok-command.ensures.app c.in-Err.ensures.kinds lrat_free in
    by_cause _ c.in-Err.error kinds (c.fault_from.ensures.memory is_words) none

pub returns-clause-taken : goal.returns-clause-taken
returns-clause-taken c =
    subst (λ (a : App). is_simple_and_free a ≡ true → fault_of a (map string_bytes c.args.words.now) ≡ [])
    c.in_ok-command.ensures.app c.in-Ok.ensures.kinds lrat_free

pub returns-clause-cnf : goal.returns-clause-cnf
returns-clause-cnf c =
    let rows : rows_of (found_of c.in-Ok.matches) ≡ matches_of lrat_command (map string_bytes c.args.words.now) =
    (c.in-Ok.ensures.matches (ap is_simple c.in_ok-command.ensures.app ∙ lrat_simple)).0 ∙ ap (λ (a : App). matches_of a (map string_bytes c.args.words.now)) c.in_ok-command.ensures.app in
    sym (ap (option_map (λ s. s.now)) c.unwrap-cnf.ensures) ∙ read_text c.in-Ok.matches (codes "CNF") _ _ c.get_str.ensures rows

pub returns-clause-proof : goal.returns-clause-proof
returns-clause-proof c =
    let rows : rows_of (found_of c.in-Ok.matches) ≡ matches_of lrat_command (map string_bytes c.args.words.now) =
    (c.in-Ok.ensures.matches (ap is_simple c.in_ok-command.ensures.app ∙ lrat_simple)).0 ∙ ap (λ (a : App). matches_of a (map string_bytes c.args.words.now)) c.in_ok-command.ensures.app in
    sym (ap (option_map (λ s. s.now)) c.unwrap-proof.ensures) ∙ read_text c.in-Ok.matches (codes "PROOF") _ _ c.get_str-2.ensures rows

pub returns-clause-two_values : goal.returns-clause-two_values
returns-clause-two_values c =
    let words = map string_bytes c.args.words.now in
    let chars : AllHaveChars words = strings_have_chars c.args.words.now in
    let none = subst (λ (a : App). is_simple_and_free a ≡ true → fault_of a words ≡ []) c.in_ok-command.ensures.app c.in-Ok.ensures.kinds lrat_free in
    let (a, b, two) = two_of (values_in words) (sym (lrat_takes words chars) ∙ ap none_of none) in
    let found = lrat_reads words chars a b two in
    let cnf = returns-clause-cnf c in
    let proof = returns-clause-proof c in
    let cnf_is : a ≡ c.unwrap-cnf.result.now = cc (found.0, cnf) in
    let proof_is : b ≡ c.unwrap-proof.result.now = cc (found.1, proof) in
    two ∙ ap₂ (λ (s t : Text). Some (s ∷ t ∷ [])) cnf_is proof_is

some_kind : (a : Kinds) → (a ≡ [] → ⊥) → none_of a ≡ false
some_kind [] h = absurd (h refl)
some_kind (k ∷ ks) h = refl

pub returns-in-Err-clause-other_words : goal.returns-in-Err-clause-other_words
returns-in-Err-clause-other_words c = λ is.
    let is_words : c.fault_from.result ≡ Words = cc in
    let kinds = subst (λ (a : App). is_simple_and_free a ≡ true → HasKind (fault_of a (map string_bytes c.args.words.now)) c.in-Err.error)
    c.in_ok-command.ensures.app c.in-Err.ensures.kinds lrat_free in
    sym (lrat_takes (map string_bytes c.args.words.now) (strings_have_chars c.args.words.now))
    ∙ some_kind _ (by_cause _ c.in-Err.error kinds (c.fault_from.ensures.memory is_words))
