-- From what clap ensures of a parse to what the words say.
use Rattle.std.proofs.Common.{◌≡◌, ◌∙◌, List, [], Option, ap, subst, inl, inr}
use Rattle.std.specs.Prelude.{option_map}
use Rattle.std.specs.Borrow.{Bor}
use Rattle.clap.specs.Words.{HasKind, IsAmong, Kinds, Row, Text, first_of, first_value, found_of, kind_of, rows_of}
use Rattle.clap.specs.declared.error.Error.{Error}
use Rattle.clap.specs.declared.error.kind.ErrorKind.TheVariants.{OutOfMemory}
use Rattle.clap.specs.declared.parser.matches.ArgMatches.{ArgMatches}
use Rattle.clap.proofs.WalkLemmas.{first_value-rows}

-- an error that is no want of memory shows that the words are refused
pub by_cause : (kinds : Kinds) (e : Error) → HasKind kinds e → (kind_of e ≡ OutOfMemory → ⊥) → kinds ≡ [] → ⊥
by_cause kinds e (inl memory) other none = other memory
by_cause kinds e (inr among) other none = subst (IsAmong (kind_of e)) none among

-- a text that was read is the one of the rows
pub read_text : (m : ArgMatches) (id : Text) (got : Option (Bor Text)) (rows : List Row) → option_map (λ s. s.now) got ≡ first_value (found_of m) id
    → rows_of (found_of m) ≡ rows → option_map (λ s. s.now) got ≡ first_of id rows
read_text m id got rows reads same = reads ∙ first_value-rows (found_of m) id ∙ ap (first_of id) same
