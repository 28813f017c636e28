-- What groups of functions and the forms of built-in functions stand for.
use Rattle.std.specs.Prelude.{ℕ, ◌+◌, List, map, true, false}
use Rattle.core_ir.specs.declared.expression.CoreBody.{CoreBody}
use Rattle.core_ir.specs.declared.program.Group.{Group as GroupTree}
use Rattle.core_ir.specs.Expressions as core
use Rattle.core_ir.specs.Expressions.{AnExp, Body, Exp, Exps, Goal}
use Rattle.core_ir.specs.Programs.{Group}
use Rattle.core_ir.specs.ProgramView.{group}
use Rattle.core_ir.specs.View.{core_body}
use Rattle.elaboration.specs.Members as members
use Rattle.elaboration.specs.Members.{amount, bind_all, element, function_of, levels_from, place, Elaborated, Form, Does, Calls, Iterates, Steps}
use Rattle.core_members.specs.declared.form.Doing.{Doing}
use Rattle.core_members.specs.declared.form.Doing.TheVariants as doing
use Rattle.core_members.specs.declared.form.MemberForm.{MemberForm}
use Rattle.core_members.specs.declared.form.MemberForm.TheVariants as form
use Rattle.core_members.specs.declared.form.Over.{Over}
use Rattle.core_members.specs.declared.form.Over.TheVariants as over
use Rattle.core_members.specs.declared.next.Picks.{Picks}
use Rattle.core_members.specs.declared.next.Picks.TheVariants as picks

abbrev pub seen_group : GroupTree CoreBody → Group Body
seen_group g = group (λ functions sees. core_body) g

abbrev pub seen_groups : List (GroupTree CoreBody) → List (Group Body)
seen_groups gs = map seen_group gs

abbrev pub seen_doing : Doing → Goal
seen_doing (doing.Operates p) = core.Operate p
seen_doing doing.Tabulates = core.Tabulate

abbrev pub seen_over : Over → members.Over
seen_over over.Elements = members.Elements
seen_over over.Places = members.Places
seen_over over.Characters = members.Characters

abbrev pub seen_form : MemberForm → Form
seen_form (form.Does what holds parameters) = Does (seen_doing what) holds parameters
seen_form (form.Calls what parameters) = Calls (seen_doing what) parameters
seen_form (form.Iterates o) = Iterates (seen_over o)
seen_form (form.Steps o) = Steps (seen_over o)

-- what an iterator over an array gives for an array and a place
abbrev pub seen_picks : Picks → Exp → Exp → Exp
seen_picks picks.Cells = element true
seen_picks picks.Elements = element false
seen_picks picks.Places = place

-- the function as a value that holds those of the operands, under so many names, with groups from number n on
abbrev pub value_as : Form → Exps → (names n : ℕ) → Elaborated
value_as f es names n =
    let v : Elaborated = function_of f (amount es + names) (levels_from names (amount es)) n in
    record { exp = bind_all es v.exp; groups = v.groups }

-- a call of it
abbrev pub called_as : Form → Exps → Exps → (names n : ℕ) → Elaborated
called_as f es args names n =
    let v : Elaborated = value_as f es names n in
    record { exp = core.Do core.Call (AnExp v.exp args); groups = v.groups }
