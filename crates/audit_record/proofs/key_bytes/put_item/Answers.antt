use Rattle.std.proofs.Common.{ap}
use Rattle.audit_record.specs.Digests.{item_bytes}
use Rattle.audit_record.proofs.DigestLemmas.{behind_tag}
use Rattle.audit_record.proofs.key_bytes.put_item.Goals as goal

pub returns-in_ok-put_integer-in-Int : goal.returns-in_ok-put_integer-in-Int
returns-in_ok-put_integer-in-Int c = behind_tag _ _ _ 3 _ _ c.in_ok-push-in-Int.ensures.items c.in_ok-put_integer-in-Int.ensures (ap item_bytes c.in-Int.is)
