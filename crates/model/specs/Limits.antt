-- Document 01, "The flow set": the first channel, the most flows, the most links and the last slot, each written once.
use Rattle.std.specs.Prelude.{ℕ, ◌+◌}
use Rattle.model.specs.declared.kinds.Limits.{Limits}

abbrev pub first_channel : ℕ
first_channel = 11

-- a map has 16 bits
abbrev pub most_channels : ℕ
most_channels = 16

abbrev pub most_flows : ℕ
most_flows = 64

abbrev pub most_links : ℕ
most_links = 16

abbrev pub last_slot : ℕ
last_slot = 4000000000

-- a route has one node more than links
abbrev pub most_nodes : ℕ
most_nodes = most_links + 1

-- what the code's associated constants are tied to
abbrev pub limits_of : Limits
limits_of = record { first_channel = first_channel; most_channels = most_channels; most_flows = most_flows; most_links = most_links; last_slot = last_slot }
