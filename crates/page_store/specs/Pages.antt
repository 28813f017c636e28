-- A linear memory: a memory instance of WebAssembly Core 1.0, section 4.2.8.
use Rattle.std.specs.Prelude.{◌≡◌, ℕ, zero, suc, ◌+◌, ◌*◌, ◌/◌, ◌%◌, ◌<◌, ◌≤◌, ◌++◌, ◌⊎◌, Bool, true, false, List, length, take, drop, replicate, max, slice_index_or, if◌then◌else◌}
use Rattle.std.specs.Str.{bytes_eq}

-- the bytes of a page
abbrev pub page_bytes : ℕ
page_bytes = 65536

-- the most pages that it may have, and its bytes
pub record LinearMemory : Type 0 where
  pub limit : ℕ
  pub bytes : List ℕ

-- a linear memory, with its bytes at the last commit
pub record KeptMemory : Type 0 where
  pub limit : ℕ
  pub bytes : List ℕ
  pub kept : List ℕ

-- the memory as it stands
abbrev pub live : KeptMemory → LinearMemory
live memory = record { limit = memory.limit; bytes = memory.bytes }

-- so many bytes are whole pages within the limit, which is one that the standard's memory types allow
pub record IsPaged (limit len : ℕ) : Type 0 where
  pub whole : len % page_bytes ≡ 0
  pub within : len ≤ limit * page_bytes
  pub limited : limit ≤ 65536

-- the size in pages
abbrev pub page_count : LinearMemory → ℕ
page_count memory = length memory.bytes / page_bytes

-- the bytes with these in place of those from a place on
abbrev pub overwritten : ℕ → List ℕ → List ℕ → List ℕ
overwritten place these bytes = take place bytes ++ these ++ drop (place + length these) bytes

-- so many pages of zeros, as growing adds them (section 4.5.3)
unfoldable pub zero_pages : ℕ → List ℕ
zero_pages pages = replicate (pages * page_bytes) 0

-- the bytes of page n, none where it is past the end
unfoldable pub page_at : List ℕ → ℕ → List ℕ
page_at bytes n = take page_bytes (drop (n * page_bytes) bytes)

-- a page without a mark has the same bytes in both, none where it is past both ends
pub record AreMarked (marks : List Bool) (bytes kept : List ℕ) : Type 0 where
  pub same : (page : ℕ) → slice_index_or marks page true ≡ false → page_at bytes page ≡ page_at kept page

-- the pages from one up to another are marked besides those that were
pub record HasMarked (first end : ℕ) (old new : List Bool) : Type 0 where
  pub others : (page : ℕ) → slice_index_or new page true ≡ false → (slice_index_or old page true ≡ false) × ((page < first) ⊎ (end ≤ page))

-- how many of the first n pages differ: one that only one list has differs too
unfoldable pub differing_pages : List ℕ → List ℕ → ℕ → ℕ
differing_pages old new zero = 0
differing_pages old new (suc n) =
    differing_pages old new n + (if bytes_eq (page_at old n) (page_at new n) then 0 else 1)

-- how many pages differ, of those that one memory or both have
abbrev pub changed_pages : LinearMemory → LinearMemory → ℕ
changed_pages old new = differing_pages old.bytes new.bytes (max (page_count old) (page_count new))
