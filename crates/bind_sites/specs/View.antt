-- The site that a value of the code is.
use Rattle.std.specs.Prelude.{Bool, cond}
use Rattle.std.specs.Option.{option_copied}
use Rattle.verilog_tree.specs.Views.{view_expr, view_links, view_optional}
use Rattle.bind_sites.specs.declared.site.Operand.{Operand as CodeOperand}
use Rattle.bind_sites.specs.declared.site.Site.{Site as CodeSite}
use Rattle.bind_sites.specs.declared.site.Site.TheVariants as code
use Rattle.bind_sites.specs.Sites.{Operand, Site, Module, Listed, Port, Wire, Assign, Instance, Named, Ordered, Assigned, Linked}

abbrev pub view_operand : CodeOperand → Operand
view_operand o = record { name = o.name.now; select = o.select }

abbrev pub view_site : CodeSite → Site
view_site (code.Module name) = Module name.now
view_site (code.Listed name) = Listed name.now
view_site (code.Port name output range) = Port name.now output range
view_site (code.Wire name range) = Wire name.now range
view_site (code.Assign to from) = Assign (view_expr to.now) (view_expr from.now)
view_site (code.Instance kind name links) = Instance kind.now name.now (view_links links.now)
view_site (code.Named kind port expr) = Named kind.now port.now (view_optional (option_copied expr))
view_site (code.Ordered kind place expr) = Ordered kind.now place (view_optional (option_copied expr))
view_site (code.Assigned operand) = Assigned (view_operand operand)
view_site (code.Linked operand) = Linked (view_operand operand)

-- an operand of a link, or of an assign
abbrev pub operand_site : Bool → Operand → Site
operand_site linked operand = cond linked (Linked operand) (Assigned operand)
