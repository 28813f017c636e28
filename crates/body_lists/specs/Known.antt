-- What is known of a module while bodies are emitted, as the definitions ask for it.
use Rattle.std.specs.Prelude.{ℕ, zero, suc, ◌+◌, List, [], ◌∷◌}
use Rattle.mo_types.specs.Graph.{head_at}
use Rattle.low_ir.specs.Numbering.{host_count}
use Rattle.heap_layout.specs.Heaps.{Plan}
use Rattle.operation_codes.specs.Treated.{is_treated}
use Rattle.operation_codes.specs.Codes.{code_of}
use Rattle.operation_lists.specs.Linked.{links_of}
use Rattle.flat_emission.specs.Emission.{Linkage, Here as Place}
use Rattle.low_emit.specs.Texts.{memory_of, place_from, words_from}
use Rattle.body_lists.specs.declared.known.Known.{Known}
use Rattle.body_lists.specs.declared.known.Here.{Here}

-- Of groups of so many functions: how many the one with this number has, and how many those before it.
abbrev pub size_of : List ℕ → ℕ → ℕ
size_of [] code = 0
size_of (n ∷ ns) zero = n
size_of (n ∷ ns) (suc code) = size_of ns code

abbrev pub before_of : List ℕ → ℕ → ℕ
before_of [] code = 0
before_of (n ∷ ns) zero = 0
before_of (n ∷ ns) (suc code) = n + before_of ns code

abbrev pub plan_of : Known → Plan
plan_of m = record {
  sizes = size_of m.groups;
  entry_of = λ code k. before_of m.groups code + k;
  base = words_from 1 m.links;
  texts = memory_of m.links;
}

abbrev pub link_of : Known → Linkage
link_of m = record {
  names = words_from 1 m.links;
  hidden = m.hidden;
  allocation = host_count;
  type_of = λ n. m.first_arity + n;
  bytes_at = λ t. place_from 1 t m.links;
  treated = is_treated (head_at m.types) (plan_of m) (links_of m.links);
  operation = code_of (links_of m.links);
}

abbrev pub here_of : Here → Place
here_of h = record { slots = h.slots; members = h.members; most = h.most }
