use Rattle.qh_hello.proofs.Fronts.{form_of_hello, forms_agree}
use Rattle.qh_hello.proofs.laws.hello_forms.Goals as goal

pub returns-clause-hello : goal.returns-clause-hello
returns-clause-hello c = form_of_hello

pub returns-clause-one : goal.returns-clause-one
returns-clause-one c = forms_agree
