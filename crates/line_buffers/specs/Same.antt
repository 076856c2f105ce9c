-- Trusted: what a function that is lent buffers leaves of them.
use Rattle.std.specs.Prelude.{◌≡◌, length}
use Rattle.line_buffers.specs.declared.Buffers.{Buffers}

-- the same buffers, each as long as it was; their words are free
pub record SameBuffers (b b' : Buffers) : Type 0 where
  pub mem : b'.mem.ghost_name ≡ b.mem.ghost_name
  pub rows : b'.rows.ghost_name ≡ b.rows.ghost_name
  pub area : b'.area.ghost_name ≡ b.area.ghost_name
  pub groups : b'.groups.ghost_name ≡ b.groups.ghost_name
  pub mem_size : length b'.mem.now ≡ length b.mem.now
  pub rows_size : length b'.rows.now ≡ length b.rows.now
  pub area_size : length b'.area.now ≡ length b.area.now
  pub groups_size : length b'.groups.now ≡ length b.groups.now
