-- THE PAGE'S NUMBERS, each by its digits, and those that two crates name agree. A name that is used on both sides of a law is pinned only here.
-- Assumes nothing.
use Rattle.std.specs.Prelude.{◌^◌, ◌≡◌}
use Rattle.rules.specs.Pair.{IDS, KEYS, OPEN, levels}
use Rattle.layout.specs.Image.{HEAD, ROW, need}
use Rattle.layout.specs.SoundImage.{SMALLEST}
use Rattle.walks.specs.Walks.{UNREACHED}
use Rattle.sheet_format.specs.Numbers.{most_vertices, most_half_edges, most_records, most_weight, no_choice, head_bytes, word_bytes, half_bytes}

pub record Numbers : Type 0 where
  pub ids : (IDS ≡ 65536) × (most_vertices ≡ 65536)
  pub keys : (KEYS ≡ 1099511627776) × (UNREACHED ≡ 1099511627776) × (KEYS ≡ 2 ^ 40)
  pub open_bound : (OPEN ≡ 72057594037927936) × (OPEN ≡ 2 ^ 56)
  pub levels_at : (levels 1 ≡ 1) × (levels 2 ≡ 2) × (levels 3 ≡ 3) × (levels 4 ≡ 3) × (levels 5 ≡ 4) × (levels 1024 ≡ 11) × (levels 65536 ≡ 17)
  pub image : (HEAD ≡ 6) × (ROW ≡ 3) × (SMALLEST ≡ need 1) × (need 1024 ≡ 6182)
  pub sheet : (most_half_edges ≡ 524288) × (most_records ≡ 262144) × (most_weight ≡ 65535) × (no_choice ≡ 4294967295)
  pub sheet_layout : (head_bytes ≡ 20) × (word_bytes ≡ 4) × (half_bytes ≡ 8)
