use Rattle.std.proofs.Common.{rules, ◌≡◌, [], ◌∷◌, List, codes, refl, ap, arith, subst}
use Rattle.std.specs.List.{list_all}
use Rattle.std.proofs.lemmas.Result.{IfOk-weaker}
use Rattle.clap.specs.declared.builder.arg.Arg.{Arg}
use Rattle.lrat_check.specs.Usage.{lrat_command, GivesValue}
use Rattle.lrat_check.proofs.Chain.{are_distinct, chain_gives, ids_of, is_own_id, joined, none_joined}
use Rattle.lrat_check.proofs.words.lrat_command_of.Goals as goal

pub returns-clause-app : goal.returns-clause-app
unfolding lrat_command
returns-clause-app c = search rules

pub returns-clause-values : goal.returns-clause-values
returns-clause-values c =
    let cnf : Arg = c.positional_of-cnf.result in
    let proof : Arg = c.positional_of-proof.result in
    let xs : List Arg = cnf ∷ proof ∷ [] in
    let cnf_id : cnf.id.now ≡ codes "CNF" = search rules in
    let proof_id : proof.id.now ≡ codes "PROOF" = search rules in
    let ids : ids_of xs ≡ codes "CNF" ∷ codes "PROOF" ∷ [] = cc in
    IfOk-weaker c.arg-2.result _ _ (λ cmd added.
    let gives = chain_gives c.command_of-start.result cmd xs (c.in_ok-arg.field-0, c.in_ok-arg.ensures, (cmd, added, refl))
    c.command_of-start.ensures.empty c.command_of-start.ensures.plain
    (joined cnf (proof ∷ []) c.positional_of-cnf.ensures.joins (joined proof [] c.positional_of-proof.ensures.joins none_joined))
    (ap (list_all is_own_id) ids) (ap are_distinct ids) in (
      subst (GivesValue cmd) cnf_id (gives 0 cnf (omega arith) c.positional_of-cnf.ensures.valued),
      subst (GivesValue cmd) proof_id (gives 1 cnf (omega arith) c.positional_of-proof.ensures.valued),
    )) c.arg-2.ensures
