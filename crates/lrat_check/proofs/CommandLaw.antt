-- What the command refuses asks for nothing.
use Rattle.std.proofs.Common.{◌≡◌, ◌∙◌, ap, sym, refl, true, false, [], ◌∷◌, List}
use Rattle.std.specs.Prelude.{◌≢◌, ◌↔◌, String}
use Rattle.clap.specs.Words.{Kinds, Text, fault_of}
use Rattle.rsfq_outside.specs.Answers.{ExactlyWhere}
use Rattle.rsfq_outside.specs.declared.status.Status.{Status}
use Rattle.lrat_check.specs.Grammar.{has_values, values_in}
use Rattle.lrat_check.specs.Run.{AsksNothing, texts}
use Rattle.lrat_check.specs.Usage.{lrat_command}
use Rattle.lrat_check.proofs.PlainWords.{AllHaveChars, lrat_takes, none_of, two_of}
use Rattle.lrat_check.proofs.Utf8Words.{strings_have_chars}

empty_of : (kinds : Kinds) → none_of kinds ≡ true → kinds ≡ []
empty_of [] is = refl
empty_of (k ∷ kinds) is = absurd (let e : false ≡ true = is in cc)

asks_nothing : (words : List Text) → AllHaveChars words → (fault_of lrat_command words ≡ [] → ⊥) → AsksNothing words
asks_nothing words chars refused cnf proof asks = refused (empty_of _ (lrat_takes words chars ∙ ap (has_values 2) asks))

refuses : (words : List Text) → AllHaveChars words → AsksNothing words → fault_of lrat_command words ≡ [] → ⊥
refuses words chars nothing none =
    let two = two_of (values_in words) (sym (lrat_takes words chars) ∙ ap none_of none) in
    nothing two.0 two.1 two.2

pub refused_exactly : {Z : Type 0} (words : List (String Z)) → (fault_of lrat_command (texts words) ≢ []) ↔ AsksNothing (texts words)
refused_exactly words = ((λ refused. asks_nothing (texts words) (strings_have_chars words) refused), (λ nothing. refuses (texts words) (strings_have_chars words) nothing))

-- an answer that comes exactly where one fact holds does so where the other does
pub same_where : {fact other : Type 0} {answer status : Status} → ExactlyWhere other answer status → fact ↔ other → ExactlyWhere fact answer status
same_where exact same = record {
  only = λ is. same.1 (exact.only is);
  comes = λ holds. exact.comes (same.0 holds);
}
