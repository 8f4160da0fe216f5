-- A count is stored for every link: the next one for a runtime link, else the old one, which leaves the column as it was. Assumes nothing.
use Rattle.counts.proofs.Turning.{link_shifted}
use Rattle.counts.proofs.shift_link.Goals as goal

pub returns : goal.returns
returns c =
    let bytes = c.args.bytes.now in
    let words = c.args.words.now in
    let value = rw (c.next_links.ensures, c.flags.ensures words) at c.choose-next.ensures in
    rw (c.set_linked.ensures bytes) (link_shifted _ _ _ (c.supplier-q.ensures words) (c.linked-old.ensures bytes) value)
