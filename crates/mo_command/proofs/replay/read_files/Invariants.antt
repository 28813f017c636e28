use Rattle.std.proofs.Common.{◌≡◌, ◌≤◌, length, take, map, string_bytes, IfSome, Global}
use Rattle.mo_command.specs.Stopped.{AreGiven}
use Rattle.mo_command.proofs.replay.read_files.Given as goal

abbrev pub invariant-loop-number : goal.invariant-loop-number
invariant-loop-number g l = record {
  given : IfSome (g.F.Files.names l.fn.files) (λ held. AreGiven l.input held (take l.number (map (string_bytes {Z = Global}) l.names)) l.modules);
  count : length l.modules ≡ l.number;
  names : g.F.Files.names l.files ≡ g.F.Files.names l.fn.files;
  reads : g.F.Files.read_faults l.fn.files ≤ g.F.Files.read_faults l.files;
  writes : g.F.Files.write_faults l.files ≡ g.F.Files.write_faults l.fn.files;
}
