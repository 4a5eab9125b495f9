-- Where an end is missing there is no link. Assumes nothing.
use Rattle.std.proofs.Common.{◌≡◌, ℕ, List, [], sym, ap, Option, None, slice_get, get_or}
use Rattle.std.specs.Prelude.{option_and_then}
use Rattle.net_rows.specs.declared.rows.Node.{Node}
use Rattle.net_rows.specs.Nets.{nth_node}
use Rattle.links.specs.declared.rows.Contact.{Contact}
use Rattle.links.specs.declared.rows.Channel.{Channel}
use Rattle.links.specs.declared.link.Link.TheVariants as Link
use Rattle.links.specs.Made.{joined, nearest, conductance_of, contact_links, terminal_node, channel_links}

pub contact-none : (nodes : List Node) (lists : List (List ℕ)) (c : Contact) → None ≡ slice_get (get_or lists c.from []) 0 → contact_links nodes lists c ≡ []
unfolding contact_links joined
contact-none nodes lists c e =
    ap (λ (from : Option ℕ). joined (conductance_of Link.Contact 1) from (option_and_then (λ a. nearest nodes (nth_node nodes a).x (nth_node nodes a).y (get_or lists c.to [])) from)) (sym e)

pub channel-none : (nodes : List Node) (layer : ℕ) (c : Channel) → None ≡ terminal_node nodes layer c.drain → channel_links nodes layer c ≡ []
unfolding channel_links joined
channel-none nodes layer c e =
    ap (λ (from : Option ℕ). joined (conductance_of (Link.Channel c.resistance) 1) from (terminal_node nodes layer c.source)) (sym e)
