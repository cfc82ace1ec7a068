use Rattle.std.proofs.Common.{ℕ, map, length, sym, subst}
use Rattle.std.proofs.lemmas.List.{length-map}
use Rattle.bind_sites.specs.declared.sort.Sort.{Sort}
use Rattle.bind_sites.specs.declared.sort.Sort.TheVariants as sort
use Rattle.bind_sites.specs.View.{view_site}
use Rattle.name_table.specs.declared.places.FirstNames.{FirstNames}
use Rattle.bind_names.specs.Indexed.{AreFirst}
use Rattle.bind_names.proofs.Doubles.{first_double}
use Rattle.bind_names.proofs.scope.Scope.of.Goals as goal

pub returns-clause-scope : goal.returns-clause-scope
returns-clause-scope c = record {
  listed = whole sort.Listed c.in_ok-listed.listed.names c.in_ok-listed.ensures.names;
  directions = whole sort.Direction c.in_ok-directions.directions.names c.in_ok-directions.ensures.names;
  wires = whole sort.Wire c.in_ok-wires.wires.names c.in_ok-wires.ensures.names;
  linked = whole sort.Linked c.in_ok-linked.linked.names c.in_ok-linked.ensures.names;
} where
  whole : (by : Sort) (names : FirstNames) → AreFirst by (map view_site c.args.sites.now) (length c.args.sites.now) names → AreFirst by (map view_site c.args.sites.now) (length (map view_site c.args.sites.now)) names
  whole by names h = subst (λ (n : ℕ). AreFirst by (map view_site c.args.sites.now) n names) (sym (length-map c.args.sites.now view_site)) h

pub returns-clause-double : goal.returns-clause-double
returns-clause-double c =
    rw (c.earlier.ensures, c.earlier-ports.ensures, c.earlier-others.ensures, length-map c.args.sites.now view_site)
    (first_double (map view_site c.args.sites.now) (length c.args.sites.now) c.in_ok-listed.listed.again c.in_ok-directions.directions.again c.in_ok-wires.wires.again c.in_ok-instances.instances.again
    c.in_ok-listed.ensures.again c.in_ok-directions.ensures.again c.in_ok-wires.ensures.again c.in_ok-instances.ensures.again)
