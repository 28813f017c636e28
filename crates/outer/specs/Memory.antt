-- What files and sinks in memory hold, and which of their calls fail.
use Rattle.std.specs.Prelude.{ℕ, List}
use Rattle.std.specs.BTreeMap.{get_by_text}
use Rattle.outer.specs.Names.{NameMap}
use Rattle.outer.specs.declared.memory.MemFiles.{MemFiles}
use Rattle.outer.specs.declared.memory.MemSink.{MemSink}

-- what each name holds
abbrev pub names_of : MemFiles → NameMap
names_of files = λ name. get_by_text files.names name

-- the numbers, from 0, of the calls that fail
abbrev pub file_places : MemFiles → List ℕ
file_places files = files.plan.failing

-- how many calls were made, which is the next call's number
abbrev pub file_calls : MemFiles → ℕ
file_calls files = files.plan.calls

abbrev pub read_faults_of : MemFiles → ℕ
read_faults_of files = files.read_faults

abbrev pub write_faults_of : MemFiles → ℕ
write_faults_of files = files.write_faults

-- the bytes put so far
abbrev pub bytes_of : MemSink → List ℕ
bytes_of sink = sink.bytes

abbrev pub sink_places : MemSink → List ℕ
sink_places sink = sink.plan.failing

abbrev pub sink_calls : MemSink → ℕ
sink_calls sink = sink.plan.calls

abbrev pub sink_faults_of : MemSink → ℕ
sink_faults_of sink = sink.faults
