use Rattle.std.proofs.Common.{sym, subst, List, [], ℕ}
use Rattle.flat_aliases.specs.declared.rings.Mark.{Mark}
use Rattle.flat_aliases.specs.Walks.{IsWalkOf}
use Rattle.flat_aliases.proofs.Walking.{begins}
use Rattle.flat_aliases.proofs.rings.start.Goals as goal

pub returns : goal.returns
returns c =
    let b = begins c.args.links.now c.args.places c.in_ok-last.field-0.last.items c.in_ok-last.field-0.before.items c.in_ok-last.ensures in
    record {
      is_walk = record {
        links_before = b.0;
        is_walk = subst (λ (ps : List ℕ). IsWalkOf c.args.links.now c.args.places c.in_ok-marks.marks.items c.in_ok-last.field-0.last.items ps) (sym c.new-path.ensures.items)
            (subst (λ (ms : List Mark). IsWalkOf c.args.links.now c.args.places ms c.in_ok-last.field-0.last.items []) (sym c.in_ok-marks.ensures) b.1);
      };
      empty = c.new-path.ensures.items;
    }
