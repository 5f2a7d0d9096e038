pub mod StreamLaws
pub mod StoreLaws
pub mod QuestionLaws
pub mod StepLaws
pub mod BodyLaws
pub mod RecordLaws
pub mod FieldLaws
