use Rattle.std.proofs.Common.{refl, sym}
use Rattle.bind_sites.specs.Scope.{IsAt}
use Rattle.bind_sites.specs.View.{view_site}
use Rattle.bind_names.specs.Scoped.{sites_of}
use Rattle.verilog_bind.proofs.Made.{read}
use Rattle.verilog_bind.proofs.Zips.{after}
use Rattle.verilog_bind.proofs.Numbering.{ports_none, ports_more, listed_here}
use Rattle.verilog_bind.proofs.wires.Wires.add_port.Goals as goal

pub returns-in_default-clause-ports : goal.returns-in_default-clause-ports
returns-in_default-clause-ports c =
    let site = view_site c.index-scope-at.result in
    let there : IsAt (sites_of c.args.scope.now) c.args.at (view_site c.index-scope-at.result) = read c.args.scope.now.sites.now c.args.at c.index-scope-at.result c.index-scope-at.result c.requires.there (sym c.index-scope-at.is) in
    ports_none (sites_of c.args.scope.now) c.args.at (view_site c.index-scope-at.result) c.args.self.now there (sym (rw (c.in_default.is, ← c.index-scope-at.is) at c.name.ensures)) c.requires.before

pub unreachable-requires : goal.unreachable-requires
unreachable-requires c =
    let there : IsAt (sites_of c.args.scope.now) c.args.at (view_site c.index-scope-at.result) = read c.args.scope.now.sites.now c.args.at c.index-scope-at.result c.index-scope-at.result c.requires.there (sym c.index-scope-at.is) in
    c.requires.sound.directed c.in-Some.name.now (listed_here (sites_of c.args.scope.now) c.args.at (view_site c.index-scope-at.result) c.in-Some.name.now there (sym (rw (c.in-Some.is, ← c.index-scope-at.is) at c.name.ensures)))
    c.in_default-direction.ensures.missed

pub returns-clause-ports : goal.returns-clause-ports
returns-clause-ports c =
    let there : IsAt (sites_of c.args.scope.now) c.args.at (view_site c.index-scope-at.result) = read c.args.scope.now.sites.now c.args.at c.index-scope-at.result c.index-scope-at.result c.requires.there (sym c.index-scope-at.is) in
    after c.push.result c.push.ensures.ok
    (λ pushed. ports_more (sites_of c.args.scope.now) c.args.at (view_site c.index-scope-at.result) c.in-Some.name.now c.in-Some-direction.output c.in-Some-direction.range _ c.args.self.now c.put.new.self c.push.new.self
    there (sym (rw (c.in-Some.is, ← c.index-scope-at.is) at c.name.ensures)) c.in-Some-direction.ensures.found (rw c.in_ok-name.ensures refl) c.requires.before c.in_ok-put.ensures.put c.put.ensures.ports pushed)
