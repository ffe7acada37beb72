-- The trees of the texts give the programs of the rows: by the rules of names first, and by those of types then.
use Rattle.std.proofs.Common.{◌≡◌, refl}
use Rattle.std.specs.Prelude.{Ok}
use Rattle.sp_tree.specs.Bare.{without_places}
use Rattle.sp_tree.specs.NameFirst.{name_resolution}
use Rattle.sp_tree.specs.Plain as m
use Rattle.sp_tree.specs.PlainChecked as c
use Rattle.sp_tree.specs.PlainNamed as n
use Rattle.sp_tree.specs.PlainSyntax as s
use Rattle.sp_types.specs.TypeFirst.{types_outcome}
use Rattle.run_tests.proofs.Programs.{by_zero, calls_itself, endless, forks, forks_nobody, joins, least, outside}
use Rattle.run_tests.proofs.Programs.{product}
use Rattle.run_tests.proofs.Programs.{receives_alone, two_sends, undefined, writes_wide}
use Rattle.run_tests.proofs.Trees as tree

-- the tree breaks no rule of names or types, and this is its program
abbrev Gives : s.Program → m.Program → Type 0
Gives t p = (named : n.Program) × (name_resolution t ≡ Ok named) × (checked : c.Program)
    × (types_outcome named ≡ Ok checked) × (without_places checked ≡ p)

of_product : Gives tree.product product
of_product = (_, refl, _, refl, refl)

of_undefined : Gives tree.undefined undefined
of_undefined = (_, refl, _, refl, refl)

of_outside : Gives tree.outside outside
of_outside = (_, refl, _, refl, refl)

of_by_zero : Gives tree.by_zero by_zero
of_by_zero = (_, refl, _, refl, refl)

of_no_width : Gives tree.no_width (writes_wide 0)
of_no_width = (_, refl, _, refl, refl)

of_widest : Gives tree.widest (writes_wide 9223372036854775807)
of_widest = (_, refl, _, refl, refl)

of_too_many : Gives tree.too_many (forks least 9223372036854775807)
of_too_many = (_, refl, _, refl, refl)

of_endless : Gives tree.endless endless
of_endless = (_, refl, _, refl, refl)

of_calls_itself : Gives tree.calls_itself calls_itself
of_calls_itself = (_, refl, _, refl, refl)

of_two_sends : Gives tree.two_sends two_sends
of_two_sends = (_, refl, _, refl, refl)

of_receives_alone : Gives tree.receives_alone receives_alone
of_receives_alone = (_, refl, _, refl, refl)

of_joins : Gives tree.joins joins
of_joins = (_, refl, _, refl, refl)

of_forks_nobody : Gives tree.forks_nobody forks_nobody
of_forks_nobody = (_, refl, _, refl, refl)
