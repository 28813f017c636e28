-- The shares of the limits at their borders.
use Rattle.std.proofs.Common.{refl, arith as arithmetic}
use Rattle.mo_actor.specs.Shares.{StepsShare, StackShare, HeapShare, OtherShares, FirstMemories}

pub steps_share : StepsShare
steps_share = record {
  reached = omega arithmetic;
  below = λ h. omega (arithmetic, h);
  endless = omega arithmetic;
  endless_below = λ h. omega (arithmetic, h);
  at_once = omega arithmetic;
  not_at_once = λ h. omega (arithmetic, h);
}

pub stack_share : StackShare
stack_share = record {
  reached = omega arithmetic;
  below = λ h. omega (arithmetic, h);
  least = omega arithmetic;
  least_below = λ h. omega (arithmetic, h);
}

pub heap_share : HeapShare
heap_share = record {
  reached = omega arithmetic;
  below = λ h. omega (arithmetic, h);
  more_pages = λ h. omega (arithmetic, h);
  at_once = omega arithmetic;
}

pub other_shares : OtherShares
other_shares = record {
  bounds = λ h. h;
  unreachable = λ h. h;
}

pub first_memories : FirstMemories
first_memories = record {
  least = refl;
  one_byte = refl;
  one_page_more = refl;
  two_pages_more = refl;
}
