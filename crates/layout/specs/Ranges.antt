-- What the grid of good headers is within: functions ask it of their callers, so that no sum or product of theirs can wrap.
use Rattle.std.specs.Prelude.{◌+◌, ◌-◌, ◌*◌, ◌<◌, ◌≤◌, ◌≡◌}
use Rattle.layout.specs.Grid.{header_bytes}
use Rattle.layout.specs.Levels.{column_bytes}
use Rattle.layout.specs.declared.Grid.{Grid}

pub record Ranged (g : Grid) : Type 0 where
  pub level : g.level < 3
  pub factor_low : 1 ≤ g.factor
  pub factor_high : g.factor ≤ 6
  pub latitude_low : 10 ≤ g.interval.latitude
  pub latitude_high : g.interval.latitude ≤ 300
  pub longitude_low : 10 ≤ g.interval.longitude
  pub longitude_high : g.interval.longitude ≤ 1800
  pub columns_low : 21 ≤ g.columns
  pub columns_high : g.columns ≤ 3601
  pub posts_low : 121 ≤ g.posts
  pub posts_high : g.posts ≤ 3601
  pub column : g.bytes.column ≡ column_bytes g.posts
  pub cell : g.bytes.cell ≡ header_bytes + g.columns * g.bytes.column
  pub cell_high : g.bytes.cell ≤ 25981042
  pub latitude_spans : (g.posts - 1) * g.interval.latitude ≡ 36000
  pub longitude_spans : (g.columns - 1) * g.interval.longitude ≡ 36000
