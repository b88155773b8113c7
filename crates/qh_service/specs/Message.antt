-- What contracts see of a head.
use Rattle.qh_spec.specs.Message.{PlainHead, Request, Response, target_of}
use Rattle.qh_service.specs.declared.message.Head.{Head}
use Rattle.qh_service.specs.declared.message.Head.TheVariants as variants

-- a head without where it lies in memory
abbrev pub head_of : Head → PlainHead
head_of (variants.Request method uri) = Request method (target_of uri)
head_of (variants.Response status) = Response status
