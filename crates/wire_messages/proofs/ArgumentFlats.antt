-- The instructions of a function that reads arguments are those of its tree.
use Rattle.std.proofs.Common.{◌≡◌, ℕ, List, [], ◌∷◌, ◌++◌, length, ℤ, pos, refl, ap, ◌∙◌, append_assoc}
use Rattle.low_ir.specs.declared.op.LowOp.{LowOp}
use Rattle.low_ir.specs.Flat.{flat}
use Rattle.low_ir.specs.Tree.{Code, Stop}
use Rattle.wire_numbers.specs.Scanning.{scan}
use Rattle.wire_tables.specs.References.{five_digits, u32_tests}
use Rattle.wire_messages.specs.declared.column.Wired.{Wired}
use Rattle.wire_messages.specs.declared.column.Wired.TheVariants.{Number, Truth, Unit as Nothing}
use Rattle.wire_messages.specs.Arguments.{refs_are, at_end, take_values, read_arguments}
use Rattle.wire_messages.specs.ArgumentLists.{table_ops, count_ops, type_ops, types_ops, take_ops, takes_ops}

values_flat : (first : ℕ) (ws : List Wired) → takes_ops first ws ++ flat at_end ≡ flat (take_values first ws)
values_flat first [] = refl
values_flat first (Number k ∷ ws) = ap (λ l. take_ops first (Number k) ++ l) (values_flat first ws)
values_flat first (Truth ∷ ws) = ap (λ l. take_ops first Truth ++ l) (values_flat first ws)
values_flat first (Nothing ∷ ws) = ap (λ l. take_ops first Nothing ++ l) (values_flat first ws)

types_flat : (ws : List Wired) (rest : Code) → types_ops ws ++ flat rest ≡ flat (refs_are ws rest)
unfolding type_ops
types_flat [] rest = refl
types_flat (Number k ∷ ws) rest = ap (λ l. type_ops (Number k) ++ l) (types_flat ws rest)
types_flat (Truth ∷ ws) rest = ap (λ l. type_ops Truth ++ l) (types_flat ws rest)
types_flat (Nothing ∷ ws) rest = ap (λ l. type_ops Nothing ++ l) (types_flat ws rest)

abbrev digits_ops : List LowOp
digits_ops = flat (scan (pos five_digits) Stop)

abbrev tests_ops : List LowOp
tests_ops = flat (u32_tests Stop)

-- what was pushed in turn
pub arguments_flat : (table first : ℕ) (ws : List Wired) (a b c d e f g h : List LowOp) (count : ℤ) → count ≡ pos (length ws) → a ≡ [] → b ≡ a ++ table_ops table → c ≡ b ++ digits_ops → d ≡ c ++ tests_ops → e ≡ d ++ count_ops count → f ≡ e ++ types_ops ws → g ≡ f ++ takes_ops first ws → h ≡ g ++ flat at_end
    → h ≡ flat (read_arguments table first ws)
arguments_flat table first ws a b c d e f g h count is ea eb ec ed ee ef eg eh =
    let n : ℤ = pos (length ws) in
    let b_is : b ≡ table_ops table = eb ∙ ap (λ l. l ++ table_ops table) ea in
    let c_is : c ≡ table_ops table ++ digits_ops = ec ∙ ap (λ l. l ++ digits_ops) b_is in
    let d_is : d ≡ (table_ops table ++ digits_ops) ++ tests_ops = ed ∙ ap (λ l. l ++ tests_ops) c_is in
    let front : List LowOp = ((table_ops table ++ digits_ops) ++ tests_ops) ++ count_ops n in
    let e_is : e ≡ front = ee ∙ (λ i. d_is i ++ count_ops (is i)) in
    let f_is : f ≡ front ++ types_ops ws = ef ∙ ap (λ l. l ++ types_ops ws) e_is in
    let g_is : g ≡ front ++ (types_ops ws ++ takes_ops first ws) = eg ∙ ap (λ l. l ++ takes_ops first ws) f_is ∙ append_assoc front (types_ops ws) (takes_ops first ws) in
    let h_is : h ≡ front ++ (types_ops ws ++ (takes_ops first ws ++ flat at_end)) = eh ∙ ap (λ l. l ++ flat at_end) g_is ∙ append_assoc front (types_ops ws ++ takes_ops first ws) (flat at_end) ∙ ap (λ l. front ++ l) (append_assoc (types_ops ws) (takes_ops first ws) (flat at_end)) in
    h_is ∙ ap (λ l. front ++ (types_ops ws ++ l)) (values_flat first ws) ∙ ap (λ l. front ++ l) (types_flat ws (take_values first ws))
