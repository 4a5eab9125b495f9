-- When the values of links are in the rules' ranges. Definitions only.
use denote.Ref.{Bor}
use Rattle.std.specs.Prelude.{Bool, ◌&&◌, ℕ, ℤ, pos, List, [], Float}
use Rattle.std.specs.Int.Signed.{le_z}
use Rattle.std.specs.List.{list_all}
use Rattle.refusals.specs.Limits.{coordinate}
use Rattle.cell.specs.Ticks.{in_range}
use Rattle.floats.specs.Fractions.{in_sheet}
use Rattle.links.specs.declared.rows.Contact.{Contact}
use Rattle.links.specs.declared.rows.Footprint.{Footprint}
use Rattle.links.specs.declared.rows.Terminal.{Terminal}
use Rattle.links.specs.declared.rows.Via.{Via}
use Rattle.links.specs.declared.rows.Channel.{Channel}
use Rattle.links.specs.declared.rows.Links.{Links}

-- a resistance has the range of a sheet resistance: 2^-40 to 2^40
abbrev pub in_resistance : Float → Bool
in_resistance = in_sheet

-- a half size: 0 to 2^36
abbrev pub in_half : ℤ → Bool
in_half z = le_z (pos 0) z && le_z z (pos coordinate)

abbrev pub footprint_in_range : Footprint → Bool
footprint_in_range f = in_range f.x && in_range f.y && in_half f.half_width && in_half f.half_height

abbrev pub terminal_in_range : Terminal → Bool
terminal_in_range t = in_range t.x && in_range t.y

abbrev pub via_in_range : Via → Bool
via_in_range v = footprint_in_range v.footprint && in_resistance v.resistance

abbrev pub channel_in_range : Channel → Bool
channel_in_range c = terminal_in_range c.drain && terminal_in_range c.source && in_resistance c.resistance

-- "links that will be skipped are judged too"; the numbers of contacts have no range
unfoldable pub links_in_range : Links → Bool
links_in_range l = list_all via_in_range l.vias.now && list_all channel_in_range l.channels.now

-- links in rows as a call is lent them; where the rows lie makes no difference
abbrev lent : {A : Type 0} → List A → Bor (List A)
lent entries = record { ref_ptr = (0, 0); now = entries }

abbrev pub links_in : List Contact → List Via → ℕ → List Channel → Links
links_in contacts vias layer channels = record { contacts = lent contacts; vias = lent vias; channel_layer = layer; channels = lent channels }

abbrev pub no_links : Links
no_links = links_in [] [] 0 []
