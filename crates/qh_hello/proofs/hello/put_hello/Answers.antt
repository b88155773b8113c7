use Rattle.std.proofs.Common.{◌≡◌, ◌++◌}
use Rattle.qh_hello.proofs.Puts.{few_are_put, hello_put}
use Rattle.qh_hello.proofs.Sizes.{size_with}
use Rattle.qh_hello.specs.Greetings.{greeting}
use Rattle.qh_spec.specs.Hello.{hello_bytes, hello_of}
use Rattle.qh_hello.proofs.hello.put_hello.Goals as goal

items_are : (c : goal.After-drop-values-2) → c.extend_from_slice.new.self.items ≡ c.args.out.now.items ++ hello_bytes (hello_of (greeting c.args.sender c.args.server_name.now c.args.parameters.now))
items_are c =
    hello_put c.args.sender c.args.server_name.now c.args.out.now.items c.extend_from_slice.new.self.items c.as_slice-2.result.now c.put_hello_parts.new.out.items c.new-hello.result.items
    c.as_slice.result.now c.put_parameters.new.out.items c.new-values.result.items c.args.parameters.now c.in_ok-extend_from_slice.ensures.items c.as_slice-2.ensures.value
    c.in_ok-put_hello_parts.ensures.ok c.new-hello.ensures.items c.as_slice.ensures.value c.in_ok-put_parameters.ensures c.new-values.ensures.items

pub put_hello_parts-requires-clause-parameters : goal.put_hello_parts-requires-clause-parameters
put_hello_parts-requires-clause-parameters c =
    few_are_put c.args.sender c.args.server_name.now c.new-values.result.items c.put_parameters.new.out.items c.as_slice.result.now c.args.parameters.now c.requires.sayable
    c.new-values.ensures.items c.in_ok-put_parameters.ensures c.as_slice.ensures.value

pub returns-clause-ok : goal.returns-clause-ok
returns-clause-ok c = items_are c

pub returns-clause-short : goal.returns-clause-short
returns-clause-short c =
    size_with c.args.out.now.items c.extend_from_slice.new.self.items (greeting c.args.sender c.args.server_name.now c.args.parameters.now) c.requires.sayable (items_are c)
