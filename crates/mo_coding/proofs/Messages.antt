-- Messages are those of the definition.
use Rattle.std.proofs.Common.{◌≡◌, ℕ, zero, suc, ◌<◌, List, [], ◌∷◌, ◌++◌, length, Some, None, append-nil, refl, sym, ap, subst, arith}
use Rattle.mo_types.specs.declared.node.TypeId.{TypeId}
use Rattle.mo_types.specs.Graph.{head_at}
use Rattle.mo_types.specs.Wire.{refs}
use Rattle.mo_types.specs.Form.{form}
use Rattle.mo_types.specs.Spelling.{low_first}
use Rattle.mo_types.specs.Values.{Values}
use Rattle.mo_types.specs.Code.{Code, CodeOf, Variable, Whole, saved_values, StableBytes}
use Rattle.mo_values.specs.Shapes.{Bytes}
use Rattle.mo_meaning.specs.Coding.{Types, stable_memory}
use Rattle.mo_coding.specs.Heads.{Heads, of_graph, of_saved}
use Rattle.mo_coding.specs.Pieces.{Piece}
use Rattle.mo_coding.specs.Messages.{message, zeros, too_many, or_too_many, code, save}
use Rattle.mo_coding.proofs.Heads.{AreFinite, graph_finite, saved_finite}
use Rattle.mo_coding.proofs.Pieces.{Makes, makes_join}
use Rattle.mo_coding.proofs.TypeTable.{makes_canonical}
use Rattle.mo_coding.proofs.Values.{makes_values}

makes_message : {B : Type 0} (g : Heads B) → AreFinite g → (types : List B) (values : Values) → Makes (CodeOf g.head types values) (message g types values)
makes_message g f types values = makes_join (makes_canonical g f types) (makes_values g.head types values)

zeros_length : (n : ℕ) → length (zeros n) ≡ n
unfolding zeros
zeros_length zero = refl
zeros_length (suc n) = ap suc (zeros_length n)

many : 2097152 < length too_many
many = let e = zeros_length 2097153 in omega (arith, e)

pub codes : (slots : Types) (types : List TypeId) (values : Values) (bytes : Bytes) → Code (head_at slots) types values bytes → code slots types values ≡ bytes
codes slots types values bytes h = ap or_too_many ((makes_message (of_graph slots) (graph_finite slots) (refs types) (form (head_at slots) types values)).only bytes h)

pub long : (slots : Types) (types : List TypeId) (values : Values) → ((bytes : Bytes) → Code (head_at slots) types values bytes → ⊥) → 2097152 < length (code slots types values)
long slots types values n = by (message (of_graph slots) (refs types) (form (head_at slots) types values)) (makes_message (of_graph slots) (graph_finite slots) (refs types) (form (head_at slots) types values)) where
  by : (o : Piece) → Makes (Code (head_at slots) types values) o → 2097152 < length (or_too_many o)
  by None m = many
  by (Some b) m = absurd (n b (m.sound b refl))

pub saves : (slots : Types) (variables : List (Variable TypeId)) (memory : Bytes) → StableBytes (head_at slots) variables memory → StableBytes (head_at slots) variables (stable_memory (save slots variables))
saves slots variables memory h =
    let m = makes_message (of_saved slots variables) (saved_finite slots variables) (Whole ∷ []) (saved_values (head_at slots) variables) in
    let e : save slots variables ≡ h.message = ap or_too_many (m.only h.message h.code) in
    record {
      message = save slots variables;
      free = [];
      whole = ap (λ l. low_first 4 1 ++ (low_first 8 (length (save slots variables)) ++ l)) (sym (append-nil (save slots variables)));
      typed = h.typed;
      code = subst (λ b. CodeOf (of_saved slots variables).head (Whole ∷ []) (saved_values (head_at slots) variables) b) (sym e) h.code;
    }
