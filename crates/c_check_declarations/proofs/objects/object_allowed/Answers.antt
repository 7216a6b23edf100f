use Rattle.c_check_declarations.proofs.objects.object_allowed.Goals as goal

pub returns-in-Value : goal.returns-in-Value
returns-in-Value c = λ notes. rw c.in-Value.is (c.value_object.ensures.said notes)

pub returns-in-Array : goal.returns-in-Array
returns-in-Array c = λ notes. rw c.in-Array.is (c.array_object.ensures.said notes)
