mod StepTexts
