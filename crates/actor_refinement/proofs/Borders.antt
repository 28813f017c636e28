-- Events and limits at their borders.
use Rattle.std.proofs.Common.{ℕ, zero, suc, arith}
use Rattle.std.proofs.lemmas.Str.{IsUtf8-nil}
use Rattle.actor_refinement.specs.SoundEvents.{AreBytes}
use Rattle.actor_refinement.specs.Borders.{so_many, LimitRows, EventRows}

are_bytes : (n : ℕ) → AreBytes (so_many n)
are_bytes zero = tt
are_bytes (suc n) = (omega arith, are_bytes n)

pub limit_rows : LimitRows
limit_rows = record {
  least = record { least_steps = omega arith; most_steps = omega arith; least_pages = omega arith; most_pages = omega arith; least_stack = omega arith; most_stack = omega arith };
  most = record { least_steps = omega arith; most_steps = omega arith; least_pages = omega arith; most_pages = omega arith; least_stack = omega arith; most_stack = omega arith };
  by_default = record { least_steps = omega arith; most_steps = omega arith; least_pages = omega arith; most_pages = omega arith; least_stack = omega arith; most_stack = omega arith };
  few_steps = λ w. omega (arith, w.least_steps);
  no_page = λ w. omega (arith, w.least_pages);
  small_stack = λ w. omega (arith, w.least_stack);
  many_steps = λ w. omega (arith, w.most_steps);
  many_pages = λ w. omega (arith, w.most_pages);
  large_stack = λ w. omega (arith, w.most_stack);
}

pub event_rows : EventRows
event_rows = record {
  principal = ((omega arith, are_bytes 29), record { short = omega arith; bytewise = tt });
  long_principal = λ s. omega (arith, s.0.0);
  no_principal = λ s. omega (arith, s.0.1.0);
  bytes = record { short = omega arith; bytewise = (omega arith, (omega arith, tt)) };
  no_bytes = λ s. omega (arith, s.bytewise.1.0);
  code = (omega arith, record { short = omega arith; bytewise = tt }, IsUtf8-nil);
  no_code = λ s. omega (arith, s.0);
}
