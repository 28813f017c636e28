-- Cells of the machine's store, and those that they stand for.
use Rattle.std.proofs.Common.{◌≡◌, ℕ, [], ◌∷◌, Option, Some, None, refl, sym, ap, ap₂, ◌∙◌}
use Rattle.mo_types.specs.Heads.{map_option}
use Rattle.mo_values.specs.Costs.{weighing}
use Rattle.mo_values.specs.Recoding.{recode_answer}
use Rattle.mo_values.specs.Shapes.{Cell}
use Rattle.mo_values.specs.Views as answer
use Rattle.mo_values.specs.Views.{Answer, Gives}
use Rattle.typed_tree.specs.Language.{Val}
use Rattle.typed_tree.specs.Language as language
use Rattle.mo_meaning.specs.Acts as meaning
use Rattle.mo_meaning.specs.Cells as cells
use Rattle.mo_machine.specs.Values.{Value, Made, NoValue, Code, value_of}
use Rattle.mo_machine.specs.Acts.{Store}
use Rattle.mo_machine.specs.Cells.{goes_to, cell_of, held, new_cell, read_cell, written, written_in}
use Rattle.mo_machine.specs.Unload.{unload, unload_list}
use Rattle.mo_machine.specs.Agrees.{unload_act}
use Rattle.mo_machine.proofs.Unloaded.{closed, value_closed, list_append, list_length, list_set, list_get}

pub cell_same : (v : Value) → cells.cell_of (unload v) ≡ cell_of v
cell_same (Made (Cell at) NoValue) = refl
cell_same _ = refl

module _ (store : Store) where
  pub held_same : (o : Option ℕ) → cells.held (unload_list store) o ≡ map_option unload (held store o)
  held_same None = refl
  held_same (Some at) = list_get store at

  goes_to_same : (o : Option Value) → unload_act (goes_to store o) ≡ cells.goes_to (unload_list store) (map_option unload o)
  goes_to_same None = refl
  goes_to_same (Some v) = refl

  pub new_same : (v : Value) → unload_act (new_cell store v) ≡ cells.new_cell (unload_list store) (unload v)
  new_same v = ap₂ (λ s n. meaning.Goes (weighing 1) s (Val (language.Made (Cell n) language.NoValue))) (list_append store (v ∷ [])) (sym (list_length store))

  pub read_same : (c : Value) → unload_act (read_cell store c) ≡ cells.read_cell (unload_list store) (unload c)
  read_same c =
      goes_to_same (held store (cell_of c))
      ∙ ap (cells.goes_to (unload_list store)) (sym (ap (cells.held (unload_list store)) (cell_same c) ∙ held_same (cell_of c)))

  written_at : (o : Option ℕ) (v : Value) → unload_act (written store o v) ≡ cells.written (unload_list store) o (unload v)
  written_at None v = refl
  written_at (Some at) v = ap (λ s. meaning.Goes (weighing 1) s (Val language.unit)) (list_set store at v)

  pub written_same : (c v : Value) → unload_act (written store (cell_of c) v) ≡ cells.written (unload_list store) (cells.cell_of (unload c)) (unload v)
  written_same c v = written_at (cell_of c) v ∙ ap (λ o. cells.written (unload_list store) o (unload v)) (sym (cell_same c))

  pub written_in_same : (r : Answer Code) (v : Value) → unload_act (written_in store r v) ≡ cells.written_in (unload_list store) (recode_answer closed r) (unload v)
  written_in_same (Gives c) v =
      written_same (value_of c) v ∙ ap (λ w. cells.written (unload_list store) (cells.cell_of w) (unload v)) (sym (value_closed c))
  written_in_same (answer.Traps text) v = refl
  written_in_same answer.Stuck v = refl
