mod Office
pub mod Examples
mod RefusalExamples
mod LeaseExamples
mod ModemExamples
mod TableExamples
