-- Commands that are made by a chain of `arg` calls, and the values that their parses give.
use Rattle.std.proofs.Common.{◌≡◌, ◌<◌, ◌&&◌, ◌||◌, ℕ, Bool, true, false, not, zero, suc, refl, sym, ap, arith, List, [], ◌∷◌, map, length, inl, inr, true≢false, codes}
use Rattle.std.specs.List.{All, list_any, list_all, slice_index_or}
use Rattle.std.specs.Str.{bytes_eq}
use Rattle.std.proofs.lemmas.List.Elements.{All-cons, All-nil}
use Rattle.std.proofs.lemmas.Slice.Eq.{bytes_eq-Decides}
use Rattle.clap.specs.Words.{AddsInTurn, AddsArg, Text, args_of, groups_of}
use Rattle.clap.specs.Built.{FitsChain, HasDistinctIds, IsAuto, TakesValue}
use Rattle.clap.specs.Walk.{is_empty}
use Rattle.clap.specs.declared.builder.arg.Arg.{Arg}
use Rattle.clap.specs.declared.builder.command.Command.{Command}
use Rattle.clap.specs.declared.builder.command.Command.TheViews.{out-Command}
use Rattle.clap.proofs.CallerLemmas.{required_in_chain}
use Rattle.clap.proofs.WalkLemmas.{both}
use Rattle.lrat_check.specs.Usage.{GivesValue, Joins}

-- no two of the texts are one
abbrev pub are_distinct : List Text → Bool
are_distinct [] = true
are_distinct (x ∷ xs) = not (list_any (bytes_eq x) xs) && are_distinct xs

-- the text is an id that clap does not use itself
abbrev pub is_own_id : Text → Bool
is_own_id id = not (is_empty id) && (not (bytes_eq id (codes "help")) && not (bytes_eq id (codes "version")))

abbrev pub ids_of : List Arg → List Text
ids_of xs = map (λ (a : Arg). a.id.now) xs

not_true : (b : Bool) → not b ≡ true → b ≡ true → ⊥
not_true true e h = true≢false (sym e)
not_true false e h = true≢false (sym h)

-- a text that is none of the ids is not the one at a place
none_at : (t : Text) (xs : List Arg) (k : ℕ) (d : Arg) → k < length xs → not (list_any (bytes_eq t) (ids_of xs)) ≡ true
    → bytes_eq t (slice_index_or xs k d).id.now ≡ true → ⊥
none_at t [] k d lt e h = omega arith
none_at t (x ∷ xs) zero d lt e h = not_true _ e (ap (λ b. b || list_any (bytes_eq t) (ids_of xs)) h)
none_at t (x ∷ xs) (suc k) d lt e h = none_at t xs k d (omega arith) (rest (bytes_eq t x.id.now) _ e) h
  where
    rest : (a b : Bool) → not (a || b) ≡ true → not b ≡ true
    rest true b e = absurd (true≢false (sym e))
    rest false b e = e

other_way : (s t : Text) → bytes_eq s t ≡ true → bytes_eq t s ≡ true
other_way s t e = (bytes_eq-Decides t s).1 (sym ((bytes_eq-Decides s t).0 e))

pub distinct_ids : (xs : List Arg) → are_distinct (ids_of xs) ≡ true → HasDistinctIds xs
distinct_ids [] e j k d g low high h = absurd (omega arith)
distinct_ids (x ∷ xs) e zero zero d g low high h = refl
distinct_ids (x ∷ xs) e zero (suc k) d g low high h =
    absurd (none_at x.id.now xs k d (omega arith) (both _ _ e).0 h)
distinct_ids (x ∷ xs) e (suc j) zero d g low high h =
    absurd (none_at x.id.now xs j g (omega arith) (both _ _ e).0
    (other_way (slice_index_or (x ∷ xs) (suc j) g).id.now x.id.now h))
distinct_ids (x ∷ xs) e (suc j) (suc k) d g low high h =
    ap suc (distinct_ids xs (both _ _ e).1 j k d g (omega arith) (omega arith) h)

own_at : (xs : List Arg) → list_all is_own_id (ids_of xs) ≡ true → (k : ℕ) (d : Arg) → k < length xs → is_own_id (slice_index_or xs k d).id.now ≡ true
own_at [] e k d lt = absurd (omega arith)
own_at (x ∷ xs) e zero d lt = (both _ _ e).0
own_at (x ∷ xs) e (suc k) d lt = own_at xs (both _ _ e).1 k d (omega arith)

not_empty : (id : Text) → is_own_id id ≡ true → id ≡ [] → ⊥
not_empty id e h = not_true _ (both _ _ e).0 (ap is_empty h)

not_auto : (a : Arg) → is_own_id a.id.now ≡ true → IsAuto a → ⊥
not_auto a e (inl h) = not_true _ (both _ _ (both _ _ e).1).0 ((bytes_eq-Decides _ _).1 h)
not_auto a e (inr h) = not_true _ (both _ _ (both _ _ e).1).1 ((bytes_eq-Decides _ _).1 h)

pub joined : (x : Arg) (xs : List Arg) → Joins x → All Joins xs → All Joins (x ∷ xs)
joined = All-cons Joins

pub none_joined : All Joins []
none_joined = All-nil Joins

pub fits : (xs : List Arg) → All Joins xs → list_all is_own_id (ids_of xs) ≡ true → All FitsChain xs
fits xs all own = λ k d lt. (
  (all k d lt).0,
  (all k d lt).1,
  not_empty _ (own_at xs own k d lt),
  not_auto (slice_index_or xs k d) (own_at xs own k d lt),
)

-- a required argument of a chain has a value after each parse that succeeds
pub chain_gives : (start cmd : Command) (xs : List Arg) → AddsInTurn AddsArg start xs cmd
    → (args_of start ≡ []) × (groups_of start ≡ [])
    → ((out-Command start).has_globals ≡ false) × ((out-Command start).subcommand_negates_reqs ≡ false)
    → All Joins xs → list_all is_own_id (ids_of xs) ≡ true → are_distinct (ids_of xs) ≡ true
    → (k : ℕ) (d : Arg) → k < length xs → TakesValue (slice_index_or xs k d) → GivesValue cmd (slice_index_or xs k d).id.now
chain_gives start cmd xs chain empty plain all own distinct k d lt value m parsed =
    required_in_chain start cmd xs k d m chain empty.0 empty.1 plain.0 plain.1 (fits xs all own) (distinct_ids xs distinct) lt value parsed
